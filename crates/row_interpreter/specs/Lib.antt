pub mod Keys
pub mod Tables
pub mod Readings
pub mod Memories
pub mod Samples
