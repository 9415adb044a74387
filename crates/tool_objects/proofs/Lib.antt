pub mod CalmFacts
