-- Definitions of the text of flat code, as it is printed and read.
pub mod Flat
pub mod Printed
pub mod Tables
pub mod Walks
pub mod Ranges
pub mod Texts
pub mod Spelled
pub mod Reads
pub mod Readable
pub mod Laws
