-- Definitions of the program of an instance on flat code.
pub mod Ready
pub mod Laws
pub mod Actions
