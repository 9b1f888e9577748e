pub mod Checkpoint
pub mod Refusal
pub mod Quiet
pub mod Saving
pub mod Laws
