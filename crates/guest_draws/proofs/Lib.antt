pub mod Named
pub mod Same
pub mod Demand3
pub mod Exact
pub mod Pixels
