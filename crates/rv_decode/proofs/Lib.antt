pub mod Encoded
pub mod Formats
pub mod Masks
pub mod Table
pub mod TableLaws
