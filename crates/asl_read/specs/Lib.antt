-- Definitions of the reader of machines.
pub mod Objects
pub mod Names
pub mod Checks
pub mod Leaves
pub mod Choices
pub mod Tables
pub mod Faults
pub mod Parts
pub mod Found
pub mod Rules
pub mod Machines
pub mod Reads
pub mod Examples
