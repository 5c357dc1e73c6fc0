pub mod Spans
pub mod Rowwise
pub mod Cleared
