pub mod Spelling
pub mod Column
pub mod Reading
