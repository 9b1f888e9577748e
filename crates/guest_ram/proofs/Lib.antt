pub mod BlockSteps
pub mod PartLemmas
