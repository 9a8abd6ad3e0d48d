-- The definitions that the contracts of this crate, and of those above it, cite.
pub mod Effect
pub mod Words
pub mod Listing
pub mod Packet
pub mod Shown
pub mod Meaning
