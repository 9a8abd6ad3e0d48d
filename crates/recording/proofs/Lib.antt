-- Laws that the proofs of this crate cite.
pub mod CommandLaws
pub mod SessionLaws
pub mod LineLaws
pub mod TranscriptLaws
