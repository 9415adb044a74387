pub mod AlikeFacts
pub mod NoteFacts
pub mod BesideFacts
mod SharedFacts
pub mod TouchFacts
