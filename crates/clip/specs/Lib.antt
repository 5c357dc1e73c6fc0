pub mod Clip
pub mod Fan
