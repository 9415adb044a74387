pub mod Codes
pub mod Sides
pub mod Live
pub mod Opened
