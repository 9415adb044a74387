pub mod Causes
pub mod Sources
