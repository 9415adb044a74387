pub mod Codes
pub mod Inputs
pub mod Tool
pub mod Drill
pub mod Statement
pub mod Live
