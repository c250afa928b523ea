-- Definitions of the plain interpreter: the central and the sequential run as code.
pub mod Views
pub mod Kinds
pub mod Finishing
pub mod Places
pub mod Told
pub mod Asking
pub mod Fits
pub mod Gathering
pub mod Walked
pub mod Laws
