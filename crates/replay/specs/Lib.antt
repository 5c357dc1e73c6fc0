pub mod Calls
pub mod Entries
pub mod Items
pub mod Numbered
pub mod Record
pub mod Text
