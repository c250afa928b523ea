-- Definitions of the report of a world.
pub mod Report
pub mod Shown
