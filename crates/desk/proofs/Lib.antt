pub mod HandlingFacts
pub mod KeyFacts
pub mod ShownFacts
