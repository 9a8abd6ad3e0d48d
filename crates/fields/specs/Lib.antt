-- The definitions that the contracts of this crate, and of those above it, cite.
pub mod Letters
pub mod Hex
pub mod Written
pub mod Read
pub mod Answer
pub mod Theorems
