-- What the functions do, and what the calls need of it.
pub mod DecisionsLaws
