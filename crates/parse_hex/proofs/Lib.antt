pub mod HexScan
pub mod HexLaws
