-- The program of an instance and the world, over any code that instances run.
pub mod Names
pub mod Code
pub mod Operations
pub mod Acts
pub mod Program
pub mod World
pub mod Maps
pub mod Counted
pub mod Queue
