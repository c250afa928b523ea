-- Lemmas on the report of a world.
pub mod Computed
pub mod Lines
