pub mod Orders
pub mod Plans
pub mod Tests
pub mod Alone
