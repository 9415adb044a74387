pub mod PlaceFacts
mod GroupFacts
