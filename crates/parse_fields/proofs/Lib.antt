-- What the functions' proofs cite, here and above.
pub mod FieldsLaws
