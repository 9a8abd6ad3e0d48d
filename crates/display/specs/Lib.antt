-- The definitions that the contracts of this crate, and of those above it, cite. Words in quotation marks are document 01's.
pub mod Line
pub mod Answer
pub mod Reason
