pub mod Halves
pub mod Values
pub mod Steps
