pub mod Worked
pub mod Differ
pub mod Meets
