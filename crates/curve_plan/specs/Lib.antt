pub mod Rows
pub mod Slopes
pub mod Knots
pub mod Pairs
pub mod Ranges
pub mod Compiled
