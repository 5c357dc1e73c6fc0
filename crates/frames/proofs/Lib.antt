pub mod Pixels
pub mod Fragments
pub mod Gather
pub mod Calls
pub mod Windows
pub mod Bills
