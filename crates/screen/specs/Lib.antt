pub mod Screen
pub mod Facing
