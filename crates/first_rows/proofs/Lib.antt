pub mod FindFacts
pub mod ByNumberFacts
