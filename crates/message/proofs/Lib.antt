-- Laws that several proofs of this crate, and of the crates above, cite.
pub mod ExchangeLaws
pub mod IncomingLaws
pub mod RoundTripLaws
pub mod AnswerLaws
