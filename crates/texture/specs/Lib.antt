pub mod Define
pub mod Patch
pub mod Parameters
