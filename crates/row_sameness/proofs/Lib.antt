pub mod ListFacts
