pub mod SlotViews
pub mod ParamPlans
pub mod FinishedValues
pub mod Demands
