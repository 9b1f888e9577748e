pub mod Numbers
pub mod Places
pub mod Pairs
pub mod Commands
pub mod Found
