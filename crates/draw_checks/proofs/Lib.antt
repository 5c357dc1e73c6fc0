pub mod Below
pub mod Cut
pub mod Passed
pub mod Early
