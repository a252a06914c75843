-- What the functions' proofs cite.
mod CommandLaws
