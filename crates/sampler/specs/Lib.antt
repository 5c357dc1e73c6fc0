pub mod Texels
pub mod Addresses
pub mod Samples
