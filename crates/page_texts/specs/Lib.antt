pub mod Codes
pub mod Examples
pub mod PageFiles
pub mod Written
