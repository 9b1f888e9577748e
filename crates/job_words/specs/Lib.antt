pub mod Job
pub mod CommandLine
pub mod Seen
pub mod Places
pub mod Laws
