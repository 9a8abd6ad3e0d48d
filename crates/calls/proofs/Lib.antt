-- Laws that the proofs of this crate, and of those above it, cite.
pub mod WordsLaws
pub mod ListingLaws
pub mod MeaningLaws
pub mod TextLaws
pub mod ShownLaws
pub mod PacketLaws
pub mod WhyLaws
