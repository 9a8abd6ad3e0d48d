-- The definitions that the contracts of this crate, and of those above it, cite.
pub mod Command
pub mod Line
pub mod Session
pub mod Transcript
