pub mod RowFacts
pub mod PlanFacts
