pub mod RowFacts
pub mod LineFacts
pub mod WordFacts
pub mod Fates
pub mod Parting
pub mod CommandFacts
