-- Lemmas on the ranges of names and numbers in worlds of flat code.
pub mod Trails
pub mod Nexts
pub mod Absorbs
pub mod Events
pub mod Tables
pub mod Fans
pub mod Steps
pub mod Walks
pub mod Running
