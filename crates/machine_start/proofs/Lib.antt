pub mod Telling
pub mod Filling
pub mod Quiets
pub mod Starts
pub mod Refusals
