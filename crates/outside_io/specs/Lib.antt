pub mod Causes
pub mod Content
pub mod Calls
pub mod Memory
pub mod Adapters
