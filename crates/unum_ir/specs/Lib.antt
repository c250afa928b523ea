-- Definitions of flat forms, and walks over them.
pub mod Flat
pub mod Calls
pub mod WellFormed
pub mod Laws
pub mod Given
pub mod Views
pub mod Kinds
pub mod Finishing
pub mod Walk
pub mod Forming
