pub mod Checkpoints
pub mod Saves
pub mod Pieces
pub mod LoadBack
pub mod Jobs
