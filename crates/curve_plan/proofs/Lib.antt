pub mod SlopeFacts
mod NumberTests
mod OrderFacts
pub mod FindFacts
pub mod PointFacts
pub mod PairFacts
pub mod RangeFacts
pub mod CompiledFacts
