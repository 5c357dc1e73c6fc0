pub mod Levels
pub mod Codes
