pub mod Wraps
pub mod Masks
pub mod Sides
pub mod Steps
pub mod Quick
pub mod Small
