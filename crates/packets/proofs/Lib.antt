-- Laws that the proofs of this crate, and of those above it, cite.
pub mod UnitLaws
pub mod LengthLaws
pub mod BlockLaws
pub mod AckLaws
pub mod IdLaws
