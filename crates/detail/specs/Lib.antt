pub mod Pairs
pub mod Steps
