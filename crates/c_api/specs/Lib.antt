-- The definitions that the contracts of the exported functions cite.
pub mod Called
pub mod Library
pub mod Desk
pub mod InRange
pub mod Version
