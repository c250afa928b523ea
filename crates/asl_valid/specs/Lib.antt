-- Definitions of the list of broken rules of validity.
pub mod Levels
pub mod Homes
pub mod Rules
pub mod Checked
