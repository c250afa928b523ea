-- Lemmas on the program of an instance on flat code.
mod Branches
mod Paces
mod Asks
mod Acted
pub mod Given
pub mod Inputs
