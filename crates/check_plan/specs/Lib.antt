pub mod Rows
pub mod Samples
pub mod Limits
pub mod Calms
pub mod States
pub mod Aparts
pub mod CheckSets
