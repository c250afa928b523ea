-- Lemmas on bundles: what their text says, and the first rule that it breaks.
pub mod Acceptance
pub mod Compiling
pub mod Fitting
pub mod GeneratedLaws
pub mod GeneratedTree
pub mod Halving
pub mod PlanRises
pub mod Somewhere
pub mod Steps
pub mod Tasks
pub mod Unbroken
pub mod Values
pub mod Walk
