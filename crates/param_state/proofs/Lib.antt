pub mod NamedFacts
pub mod ValueFacts
pub mod CarriedFacts
pub mod DemandFacts
