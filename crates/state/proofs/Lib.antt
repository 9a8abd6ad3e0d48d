-- Laws that several proofs of this crate, and of the crates above, cite.
pub mod RecordsLaws
pub mod LayoutLaws
pub mod MemoryLaws
pub mod SoundLaws
pub mod FreshLaws
pub mod ApartLaws
