pub mod Defaults
pub mod Each
pub mod Mapped
pub mod Next
pub mod Steps
pub mod Stores
pub mod Corners
