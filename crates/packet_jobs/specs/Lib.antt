pub mod Drawn
pub mod Tasks
pub mod Turning
