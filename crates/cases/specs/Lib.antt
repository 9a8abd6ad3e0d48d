-- The cases that document 01 marks with P, cases of the one memory, of the text lines and of a watcher, and two stories of isolation.
pub mod Case
pub mod Cases
pub mod LineCases
pub mod WatchCases
pub mod Table
pub mod Pair
pub mod Again
