-- What the functions' proofs cite.
mod Texts
