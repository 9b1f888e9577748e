pub mod Status
pub mod Entry
pub mod Return
pub mod Interrupt
