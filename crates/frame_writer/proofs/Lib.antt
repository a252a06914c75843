-- What the functions' proofs cite.
mod WriterLaws
