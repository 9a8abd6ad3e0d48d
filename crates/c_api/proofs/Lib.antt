-- Laws that the proofs of this crate cite.
pub mod SignLaws
pub mod ShortLaws
pub mod StartLaws
pub mod ReturnLaws
pub mod LibraryLaws
pub mod NarrowLaws
pub mod DeskLaws
pub mod QueryLaws
