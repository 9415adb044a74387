pub mod Slices
pub mod Entries
pub mod Groups
pub mod Stacks
pub mod Places
pub mod Sources
pub mod Courses
