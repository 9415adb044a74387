pub mod PartFacts
pub mod CommonFacts
pub mod LineFacts
pub mod ShownFacts
pub mod Computed
