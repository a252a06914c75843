-- What the functions' proofs cite.
mod CallsLaws
