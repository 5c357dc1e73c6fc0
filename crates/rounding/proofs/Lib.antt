pub mod Near
pub mod Kept
pub mod Floors
pub mod Halves
pub mod Methods
pub mod Next
pub mod LastBits
