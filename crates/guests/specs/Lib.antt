pub mod Calls
pub mod Exact
pub mod Guests
pub mod Draws
