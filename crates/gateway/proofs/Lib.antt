-- Laws that the proofs of this crate, and of those above it, cite.
pub mod PartLaws
pub mod StageLaws
pub mod AskedLaws
pub mod ReportLaws
pub mod TextLaws
pub mod PacketLaws
pub mod TickLaws
pub mod ReadyLaws
pub mod LentLaws
pub mod FinishLaws
pub mod TickedLaws
pub mod WhyLaws
pub mod NewlineLaws
pub mod LengthLaws
pub mod SequenceLaws
pub mod DemandLaws
