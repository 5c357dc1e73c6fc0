pub mod Settings
pub mod Compare
pub mod Factor
pub mod Codes
pub mod Channels
