pub mod Sends
pub mod Loaded
pub mod Fits
