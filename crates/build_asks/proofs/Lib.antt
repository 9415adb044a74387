pub mod AskFacts
