-- What the functions' proofs cite, here and in the crate parse_command.
pub mod Counts
pub mod FormsLaws
