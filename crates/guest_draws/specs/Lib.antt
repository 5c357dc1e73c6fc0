pub mod Draw
pub mod Exact
pub mod EveryCall
