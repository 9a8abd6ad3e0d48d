-- Definitions on lists that the contracts of every crate above cite.
pub mod Buffer
pub mod Elements
pub mod Every
pub mod First
pub mod Flag
pub mod Joined
pub mod Sum
pub mod Word
