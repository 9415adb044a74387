pub mod Savings
