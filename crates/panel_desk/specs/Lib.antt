pub mod State
pub mod Using
