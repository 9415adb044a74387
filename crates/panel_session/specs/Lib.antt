pub mod Begun
pub mod Lanes
pub mod Panel
pub mod Opened
pub mod Codes
