pub mod NumberFacts
pub mod ListFacts
pub mod TellFacts
pub mod CarryFacts
pub mod CourseFacts
