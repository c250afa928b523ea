-- Definitions of the words, the texts, and what a call answers, writes and leaves.
pub mod Central
pub mod Codes
pub mod Completeness
pub mod FlatCode
pub mod Refused
pub mod Run
pub mod Shown
pub mod Telling
pub mod Tool
pub mod Valid
pub mod Words
pub mod Worked
