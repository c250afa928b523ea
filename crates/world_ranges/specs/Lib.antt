-- Definitions of the ranges of names and numbers in worlds of flat code.
pub mod Roles
pub mod Ranges
pub mod Worlds
pub mod Flat
