-- Document 01 as definitions.
pub mod Times
pub mod Addresses
pub mod Bytes
pub mod Answers
pub mod Frame
pub mod Clock
