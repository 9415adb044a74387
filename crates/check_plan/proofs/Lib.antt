pub mod SetFacts
pub mod CalmFacts
