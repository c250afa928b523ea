-- Definitions of sessions that run: traces, events, the chooser and totals.
pub mod Openings
pub mod Traces
pub mod OneStep
pub mod Kept
pub mod Instances
pub mod Calls
pub mod Answers
pub mod Cost
pub mod Sound
pub mod Turns
pub mod AllCrash
