pub mod Seed
pub mod Laws
