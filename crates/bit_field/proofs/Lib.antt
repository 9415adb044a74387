pub mod BitFacts
pub mod LittleFacts
pub mod EncodingFacts
pub mod SumFacts
