pub mod Computed
pub mod NameFacts
pub mod TextFacts
