-- Definitions of bundles: what their text says, and the first rule that it breaks.
pub mod Accepted
pub mod Bounds
pub mod Called
pub mod Checked
pub mod Drafts
pub mod Faults
pub mod Generated
pub mod Judged
pub mod Parts
