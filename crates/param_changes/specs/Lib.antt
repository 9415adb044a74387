pub mod Changed
pub mod Beside
pub mod Touches
