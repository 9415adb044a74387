pub mod Pieces
pub mod Sheets
pub mod Lying
pub mod Readings
pub mod Playing
pub mod Drawings
