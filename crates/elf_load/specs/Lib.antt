pub mod First
pub mod Format
pub mod Loading
pub mod Refusal
pub mod Symbols
