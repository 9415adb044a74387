pub mod FinishFacts
mod NumberFacts
pub mod ParamFacts
mod SoundFacts
mod ValueFacts
mod RunFacts
