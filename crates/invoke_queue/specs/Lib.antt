-- Definitions of messages and their attempts, and the plan of mishaps in code.
pub mod Numbers
pub mod Queue
pub mod Plans
pub mod Codes
pub mod Worlds
