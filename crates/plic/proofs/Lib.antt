pub mod Best
pub mod Within
pub mod Loaded
pub mod Fits
