pub mod Runs
pub mod Walks
pub mod Cuts
pub mod Places
pub mod Matches
