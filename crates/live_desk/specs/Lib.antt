pub mod Operators
pub mod Standing
pub mod DeskEnds
pub mod Lines
pub mod Scripts
