pub mod PlanFacts
mod StampFacts
pub mod EndFacts
pub mod LiveFacts
pub mod SharedEdition
pub mod Crossing
