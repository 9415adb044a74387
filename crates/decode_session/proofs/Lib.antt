pub mod FinishFacts
pub mod BatchFacts
pub mod AheadFacts
pub mod TurnFacts
pub mod RunSteps
pub mod SharedPlans
