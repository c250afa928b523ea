-- Definitions of the compiler: the numbers and the flat form of a machine.
pub mod Tables
pub mod Numbering
pub mod Filling
pub mod Compiling
pub mod Coded
pub mod Laws
pub mod Examples
