-- Lemmas on the bitmap of a fan.
mod Flagged
