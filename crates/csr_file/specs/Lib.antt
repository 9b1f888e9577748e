pub mod Numbers
pub mod Bits
pub mod Legal
pub mod Kept
pub mod View
pub mod Write
pub mod Access
pub mod Count
