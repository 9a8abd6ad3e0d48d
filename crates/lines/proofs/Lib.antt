-- Laws that the proofs of this crate cite.
pub mod ScanLaws
pub mod PrintLaws
pub mod PairLaws
pub mod PutLaws
