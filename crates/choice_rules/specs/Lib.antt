-- Definitions of choice rules and patterns.
pub mod Compared
pub mod Comparing
pub mod Evaluating
pub mod Matching
pub mod PatternTexts
pub mod Patterns
pub mod Searching
pub mod formers
