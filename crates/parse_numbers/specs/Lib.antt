-- The tests that src/ makes of digits.
pub mod Numerals
