pub mod CutFacts
pub mod WordFacts
pub mod LongFacts
pub mod ToComeFacts
pub mod GivenFacts
pub mod PieceFacts
pub mod ReaderFacts
