pub mod Named
pub mod Defining
pub mod Patching
pub mod Written
pub mod Validity
