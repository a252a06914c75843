-- What the functions' proofs cite.
mod Scan
