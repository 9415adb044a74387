pub mod LayFacts
pub mod StructureFacts
pub mod FitFacts
pub mod LaidFacts
pub mod OctetFacts
pub mod HeaderFacts
pub mod BuiltFacts
pub mod RightFacts
