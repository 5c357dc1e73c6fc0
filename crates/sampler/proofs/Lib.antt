pub mod Indices
pub mod Parts
pub mod Records
pub mod Chosen
pub mod Addresses
pub mod Turns
