pub mod PartFacts
pub mod EightFacts
pub mod SetFacts
pub mod FindFacts
pub mod OctetFacts
pub mod ReadFacts
