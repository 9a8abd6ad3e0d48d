-- The definitions that the contracts of this crate, and of those above it, cite. Words in quotation marks are those of documents 01 and 02.
pub mod ReportKind
pub mod RunState
