pub mod Shown
pub mod Picked
pub mod Runs
