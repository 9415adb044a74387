pub mod Lays
pub mod Builds
