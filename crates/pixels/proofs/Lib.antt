pub mod Fragments
pub mod Pixels
