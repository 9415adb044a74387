pub mod RowFacts
pub mod OrderFacts
pub mod NamedPlans
pub mod TouchedFacts
