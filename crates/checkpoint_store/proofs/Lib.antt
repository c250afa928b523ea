-- Lemmas on objects by their names.
mod Bits
mod Sames
mod Stored
