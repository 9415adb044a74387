pub mod ToWalkFacts
pub mod WalkFacts
