pub mod Alone
pub mod Acts
pub mod Bills
