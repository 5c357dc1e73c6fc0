pub mod Worked
pub mod Differ
