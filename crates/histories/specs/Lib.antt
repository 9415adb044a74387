pub mod History
pub mod Parts
