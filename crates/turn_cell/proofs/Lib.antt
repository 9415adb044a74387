pub mod Sums
pub mod Holdings
pub mod Histories
pub mod Steps
pub mod Shares
