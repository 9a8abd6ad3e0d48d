-- Laws on lists, bytes and words.
pub mod Bool
pub mod Buffer
pub mod Cases
pub mod Elements
pub mod Every
pub mod First
pub mod Joined
pub mod MapStep
pub mod Moved
pub mod Part
pub mod Short
pub mod Sum
pub mod Word
pub mod Zeros
