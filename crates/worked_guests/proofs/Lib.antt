pub mod Uses
pub mod Opened
pub mod Worked
pub mod Needed
