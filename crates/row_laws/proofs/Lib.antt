pub mod DecimalFacts
pub mod FitFacts
pub mod RowFitFacts
pub mod SameFacts
