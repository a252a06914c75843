-- What the loop of src/ has left to read.
pub mod Dotted
