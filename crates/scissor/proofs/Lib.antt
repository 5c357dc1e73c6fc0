pub mod Boxes
pub mod Outcome
