pub mod AskedFacts
pub mod AlikeFacts
