pub mod OctetFacts
pub mod PlaceFacts
pub mod ShortFacts
pub mod DigitFacts
pub mod StandFacts
