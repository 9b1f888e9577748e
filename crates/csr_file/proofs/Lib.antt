pub mod LegalLaws
pub mod FitLaws
pub mod AccessLaws
pub mod WriteLaws
pub mod BackLaws
