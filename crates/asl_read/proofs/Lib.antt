-- Lemmas on the reader of machines.
pub mod Lists
pub mod Inside
