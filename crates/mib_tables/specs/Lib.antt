pub mod Kinds
pub mod Puts
pub mod Parts
