pub mod Harts
pub mod Loaded
pub mod Fits
