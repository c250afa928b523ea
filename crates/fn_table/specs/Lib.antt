-- Definitions of the built-in functions and their table.
pub mod Answers
