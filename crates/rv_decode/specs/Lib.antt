pub mod Compressed
pub mod Encode
pub mod Immediates
pub mod Ranges
pub mod Words
