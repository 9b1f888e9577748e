pub mod Access
pub mod Layout
pub mod State
pub mod Laws
