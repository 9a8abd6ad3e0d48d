-- The definitions that the contracts of this crate, and of those above it, cite. Words in quotation marks are those of documents 01 and 02.
pub mod Sizes
pub mod Record
pub mod Find
pub mod Sound
pub mod Local
pub mod Planting
pub mod Request
pub mod Report
pub mod Packet
pub mod Theorems
