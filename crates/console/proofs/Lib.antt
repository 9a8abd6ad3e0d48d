-- The lemmas of this crate.
mod Turn
