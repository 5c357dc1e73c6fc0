pub mod Consumed
pub mod Words
