pub mod Images
pub mod Plains
pub mod Expands
pub mod Lents
