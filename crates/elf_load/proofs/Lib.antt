pub mod FirstLemmas
pub mod HeaderLemmas
pub mod LayingLemmas
pub mod MemoryLemmas
pub mod NameLemmas
pub mod SymbolLemmas
