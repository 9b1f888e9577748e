pub mod FindLaws
pub mod BitLaws
pub mod PickLaws
pub mod ReturnLaws
