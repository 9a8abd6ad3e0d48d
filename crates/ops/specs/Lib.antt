-- The definitions that the contracts of this crate, and of those above it, cite. Words in quotation marks are document 01's and the change requests'.
pub mod Codes
pub mod Table
