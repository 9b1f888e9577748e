pub mod Algebra
pub mod Held
pub mod OneAct
pub mod Apart
pub mod Causes
