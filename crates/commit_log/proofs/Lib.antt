pub mod Back
pub mod Columns
pub mod Digits
pub mod Grammar
pub mod Plain
pub mod ReadDigits
pub mod Steady
pub mod SteadyParts
