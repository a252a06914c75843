-- Document 01's rules as definitions: interface, calls, refusals, then the histories of demand 3.
pub mod Timing
pub mod Slots
pub mod Interface
pub mod Deadlines
pub mod Conflicts
pub mod Calls
pub mod Refusals
pub mod Machine
pub mod Claims
pub mod Demand3
pub mod Bench
