-- The room that a kind takes.
pub mod KindLaws
