pub mod KeyLemmas
pub mod ReadLemmas
pub mod RangeLemmas
pub mod WriteLemmas
pub mod OrderLemmas
pub mod ReadBack
