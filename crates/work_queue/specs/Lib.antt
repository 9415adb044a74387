pub mod Accounts
pub mod Passes
