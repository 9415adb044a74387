pub mod ShownFacts
pub mod CourseFacts
pub mod FoundFacts
pub mod RunFacts
pub mod OperandFacts
pub mod TellFacts
pub mod TextFacts
pub mod ScriptFacts
