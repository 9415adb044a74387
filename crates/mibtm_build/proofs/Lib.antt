pub mod AnswerFacts
pub mod OperandFacts
pub mod RunFacts
pub mod StopFacts
