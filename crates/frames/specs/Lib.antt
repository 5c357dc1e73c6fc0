pub mod State
pub mod Windows
pub mod Fragments
pub mod Gather
