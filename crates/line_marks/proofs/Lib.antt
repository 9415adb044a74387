pub mod BehindFacts
pub mod DrawingFacts
