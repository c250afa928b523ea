-- Lemmas on the words, the texts, and what a call answers, writes and leaves.
pub mod Completing
pub mod Computed
pub mod Due
pub mod FlatJudged
pub mod Sessions
pub mod Sums
pub mod Worked
