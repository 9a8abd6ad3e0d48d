-- The definitions that the contracts of this crate cite, beside those of the rules. Words in quotation marks are document 01's.
pub mod Stage
pub mod Called
pub mod Lengths
pub mod Sequence
pub mod Demands
