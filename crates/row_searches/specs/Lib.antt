pub mod Nesting
pub mod Parts
