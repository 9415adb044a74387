pub mod Codes
pub mod Opening
pub mod Board
pub mod Whole
