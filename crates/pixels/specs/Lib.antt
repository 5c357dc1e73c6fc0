pub mod Way
pub mod Targets
