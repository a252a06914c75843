pub mod AcceptedText
