pub mod Joins
pub mod Keeps
pub mod Logs
pub mod Restored
pub mod Apart
pub mod Places
pub mod Cases
pub mod After
