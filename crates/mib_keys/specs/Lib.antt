pub mod Alike
pub mod Firsts
pub mod Answers
pub mod Kept
pub mod Read
