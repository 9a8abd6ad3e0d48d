-- The definitions that the contracts of this crate, and of those above it, cite. Words in quotation marks are those of document 01 or of a
-- change request.
pub mod Records
pub mod Layout
pub mod Sound
pub mod Fresh
pub mod Theorems
