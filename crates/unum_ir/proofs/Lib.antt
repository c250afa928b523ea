-- Lemmas on flat forms, and walks over them.
pub mod TablesHold
pub mod Retries
pub mod Picks
pub mod Copies
pub mod Selecting
pub mod Branches
pub mod WalkLaw
pub mod Counting
pub mod Tagging
pub mod Leading
pub mod Keeping
pub mod OneInput
pub mod OneFilling
