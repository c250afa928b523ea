-- `NonEmpty` as a type that may hold the type that holds it.
pub mod NonEmpty
