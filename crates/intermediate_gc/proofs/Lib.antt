-- Lemmas on the objects that an instance collects when it is done.
mod Listed
