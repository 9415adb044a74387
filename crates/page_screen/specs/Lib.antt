pub mod Shows
pub mod Ends
