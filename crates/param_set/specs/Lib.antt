pub mod Sharing
pub mod Compiled
pub mod Sources
pub mod Laws
