pub mod Boards
pub mod Places
pub mod Premises
pub mod Entering
pub mod Opened
pub mod Laws
