pub mod Scissor
pub mod Check
