pub mod Laws
pub mod Walks
pub mod Fans
