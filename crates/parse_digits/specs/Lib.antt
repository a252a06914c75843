-- What the digits of src/ stand for.
pub mod LeadingDigits
