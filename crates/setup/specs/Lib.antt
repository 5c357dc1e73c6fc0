pub mod Box
pub mod Setup
