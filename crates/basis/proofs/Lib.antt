-- What follows from the definitions of specs/.
pub mod BytesLaws
pub mod AnswersLaws
pub mod FrameLaws
pub mod ClockLaws
