pub mod Slices
pub mod Turns
pub mod Readings
pub mod Spans
pub mod Stops
