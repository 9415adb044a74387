pub mod Indexes
pub mod Firsts
pub mod Points
pub mod Structures
pub mod Known
pub mod Rows
