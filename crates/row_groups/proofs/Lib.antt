pub mod GroupFacts
