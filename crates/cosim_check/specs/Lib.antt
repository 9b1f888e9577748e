pub mod Answering
pub mod Fields
pub mod Records
pub mod Lines
pub mod Verdicts
pub mod Standing
pub mod Places
pub mod Laws
