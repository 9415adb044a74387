pub mod Filling
pub mod Cutting
pub mod Unique
