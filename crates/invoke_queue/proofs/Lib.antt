-- Lemmas on messages and their attempts, and the plan of mishaps in code.
pub mod Ranks
pub mod Counts
pub mod Sets
pub mod Listed
pub mod Kept
pub mod Rising
pub mod Following
