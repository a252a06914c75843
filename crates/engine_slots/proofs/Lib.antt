pub mod Scans
pub mod SlotsLaws
