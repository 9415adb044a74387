pub mod Stacked
pub mod Walks
