pub mod Told
pub mod Settings
pub mod Sampling
pub mod Corners
