pub mod Entry
pub mod Found
pub mod Laws
pub mod Plain
pub mod Remembered
pub mod Slots
pub mod Walk
