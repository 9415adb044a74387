pub mod StandingFacts
pub mod LayFacts
