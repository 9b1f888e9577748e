pub mod Access
pub mod Claims
pub mod Kept
pub mod Layout
pub mod State
