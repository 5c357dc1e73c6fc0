pub mod Chain
pub mod Valid
pub mod Lone
pub mod Apart
