pub mod Fills
pub mod Setups
pub mod Fans
pub mod Corners
