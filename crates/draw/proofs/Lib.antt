pub mod Bound
pub mod Cut
pub mod Passed
pub mod Same
pub mod Unstaged
