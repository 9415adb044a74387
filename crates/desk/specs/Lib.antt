pub mod Drafts
pub mod State
pub mod Handling
pub mod Saving
pub mod Refusals
pub mod Using
