pub mod BoardFacts
mod Common
pub mod TaskFacts
