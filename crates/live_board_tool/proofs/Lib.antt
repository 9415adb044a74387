pub mod LivesFacts
pub mod BoardFacts
pub mod WholeFacts
