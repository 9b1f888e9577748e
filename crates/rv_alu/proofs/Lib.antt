pub mod Bytes
pub mod Remainders
