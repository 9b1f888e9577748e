pub mod Room
pub mod Taking
