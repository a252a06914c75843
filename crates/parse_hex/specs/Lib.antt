pub mod HexValues
