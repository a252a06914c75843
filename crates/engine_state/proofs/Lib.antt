-- What a new interface is made of.
pub mod StateLaws
