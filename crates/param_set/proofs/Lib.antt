mod CompiledFacts
pub mod CountFacts
pub mod ImageFacts
pub mod OrderFacts
pub mod SameFacts
pub mod SharingFacts
pub mod UniqueFacts
pub mod PlanFacts
