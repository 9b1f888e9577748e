pub mod World
pub mod Acts
pub mod Calls
