-- The definitions that the contracts of this crate, and of those above it, cite. Words in quotation marks are those of document 02 (K8).
pub mod Reason
