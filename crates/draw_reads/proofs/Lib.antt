pub mod Taken
pub mod Runs
pub mod Pixels
pub mod Takes
pub mod Counts
pub mod Few
