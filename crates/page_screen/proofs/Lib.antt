pub mod ShowFacts
