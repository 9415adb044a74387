mod KeyFacts
mod FlawFacts
mod TwiceFacts
mod KeptFacts
mod ReadFacts
pub mod KnownFacts
mod EqualFacts
