-- The proof of the cases.
pub mod LineCaseLaws
pub mod CaseLaws
pub mod PairLaws
pub mod AgainLaws
