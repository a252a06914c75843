-- What the functions' proofs cite.
mod Dotted
