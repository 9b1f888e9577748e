pub mod Confined
pub mod Fields
pub mod Images
