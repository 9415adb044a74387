pub mod SoundFacts
mod NumberFacts
pub mod BuildingFacts
pub mod LayoutFacts
pub mod StructureFacts
mod KeptFacts
