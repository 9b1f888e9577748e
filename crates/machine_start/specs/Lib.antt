pub mod Reading
pub mod Start
pub mod Refusal
pub mod Quiet
