pub mod Numbers
pub mod Codes
pub mod Settings
pub mod Stages
pub mod Vertices
pub mod Units
