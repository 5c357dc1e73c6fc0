pub mod Setups
pub mod Outcomes
pub mod Edges
