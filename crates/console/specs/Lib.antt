pub mod Access
pub mod Layout
pub mod Output
pub mod State
pub mod Laws
