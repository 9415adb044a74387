pub mod Draws
pub mod Tables
pub mod Feed
pub mod Counts
pub mod Told
