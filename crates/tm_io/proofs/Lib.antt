pub mod FileFacts
pub mod StopFacts
