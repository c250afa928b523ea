-- Definitions of objects by their names.
pub mod Answers
pub mod Entries
pub mod Keys
pub mod Writes
