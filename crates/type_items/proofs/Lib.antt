pub mod RowFacts
pub mod SameFacts
pub mod FindFacts
pub mod AlikeFacts
