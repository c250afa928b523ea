-- Definitions of objects and queue in one.
pub mod Holding
