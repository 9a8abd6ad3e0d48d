-- Laws that the proofs of this crate, and of those above it, cite.
pub mod HexLaws
pub mod ReadLaws
pub mod LineLaws
pub mod WriteLaws
pub mod AnswerLaws
