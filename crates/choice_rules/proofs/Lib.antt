-- Lemmas on choice rules and patterns.
pub mod Characters
pub mod Turns
pub mod Searches
pub mod MatchTest
pub mod PatternReading
pub mod Tries
pub mod PatternBack
