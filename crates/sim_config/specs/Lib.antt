pub mod Keys
pub mod Faults
pub mod Reading
pub mod Ranges
pub mod Written
