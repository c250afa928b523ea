-- Lemmas on the built-in functions and their table.
pub mod Names
