-- What follows from the definitions.
pub mod ReadingLaws
pub mod FieldLaws
pub mod PartLaws
pub mod NumberLaws
pub mod HexLaws
pub mod AddressLaws
pub mod ForeignBytes
pub mod AnswerLaws
pub mod RecordLaws
pub mod StreamLaws
pub mod WholeCase
