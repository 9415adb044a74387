pub mod Stations
pub mod Inputs
pub mod Panel
pub mod Whole
