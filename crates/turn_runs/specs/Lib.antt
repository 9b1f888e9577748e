pub mod Feeding
pub mod Run
pub mod Resuming
pub mod Reaching
pub mod Leaves
pub mod Windowless
