-- Lemmas on the list of broken rules of validity.
pub mod Trees
pub mod Sharing
pub mod Whole
