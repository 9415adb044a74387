pub mod Slices
pub mod Choices
pub mod Parts
pub mod Plain
pub mod Blocks
pub mod Names
pub mod Laws
