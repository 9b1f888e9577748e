pub mod Classes
pub mod Codes
pub mod Jobs
pub mod Laws
pub mod Report
pub mod TopCall
pub mod Complete
pub mod Works
