pub mod HexDigitsLaws
