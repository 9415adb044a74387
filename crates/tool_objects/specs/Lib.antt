pub mod Objects
pub mod Sources
pub mod Told
pub mod Opened
pub mod Calm
