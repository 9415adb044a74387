pub mod Rows
pub mod Kins
