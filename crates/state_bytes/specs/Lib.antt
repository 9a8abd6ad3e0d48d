-- The byte form of a state: integers low byte first. Each struct has its codec: the bytes of it, it from its bytes, and the bytes that are one's.
pub mod Chunk
pub mod Entry
pub mod Layout
pub mod Number
pub mod Process
pub mod Session
pub mod State
pub mod Theorems
pub mod Widths
