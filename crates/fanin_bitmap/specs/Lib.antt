-- Definitions of the bitmap of a fan.
pub mod Words
