-- Document 01, "Replay lines", as definitions: the text of a field, the call that a line makes, the answer's text, the records
-- of an input, and the replay of a stream that arrives in pieces.
pub mod Fields
pub mod Numbers
pub mod Forms
pub mod Answers
pub mod Records
pub mod Stream
