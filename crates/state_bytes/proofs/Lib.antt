-- Laws that the proofs of this crate cite.
pub mod ChunkLaws
pub mod DoorLaws
pub mod EntryLaws
pub mod NumberLaws
pub mod OrderLaws
pub mod ProcessLaws
pub mod StartLaws
pub mod StateLaws
