-- Lemmas on the plain interpreter: the central and the sequential run as code.
pub mod Picks
pub mod Counts
pub mod BeginLaw
pub mod Fronts
pub mod Halving
pub mod Branches
pub mod Steps
pub mod Sequences
pub mod Going
pub mod Fitting
pub mod Telling
