pub mod ChoiceFacts
pub mod NameFacts
pub mod BlockFacts
pub mod PlainFacts
pub mod PlanFacts
pub mod LawFacts
pub mod SoundFacts
