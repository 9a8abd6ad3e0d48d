-- The definitions that the contracts of this crate, and of those above it, cite.
pub mod Text
pub mod Name
pub mod OpName
pub mod RunName
pub mod Count
pub mod Pattern
pub mod Sentence
