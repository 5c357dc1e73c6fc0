pub mod Solids
pub mod Bytes
