pub mod Views
pub mod Pairs
