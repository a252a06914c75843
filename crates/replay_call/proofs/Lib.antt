-- What the functions' proofs cite.
mod CallLaws
