-- The definitions that the contracts of this crate, and of those above it, cite.
pub mod Types
pub mod Units
pub mod Data
pub mod Block
pub mod Ack
pub mod Id
pub mod Theorems
