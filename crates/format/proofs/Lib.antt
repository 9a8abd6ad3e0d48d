-- Laws that several proofs of this crate, and of the crates above, cite.
pub mod OutcomeLaws
pub mod TestLaws
pub mod LayoutLaws
