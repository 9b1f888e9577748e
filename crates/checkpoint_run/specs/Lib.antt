pub mod Saving
pub mod Reaching
pub mod Leaves
pub mod Laws
