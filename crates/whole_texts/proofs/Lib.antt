pub mod Taking
pub mod PartFacts
