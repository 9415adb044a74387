pub mod AnyFacts
pub mod LookupFacts
pub mod PointFacts
pub mod OrderFacts
mod GroupFacts
mod SweepFacts
