pub mod Signals
pub mod Accesses
pub mod Loaded
pub mod Fits
pub mod Kept
