pub mod Board
pub mod Laws
pub mod Listed
pub mod Signals
pub mod Window
