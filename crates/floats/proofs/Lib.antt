pub mod Cut
pub mod Signs
