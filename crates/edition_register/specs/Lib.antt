pub mod Shown
pub mod Laws
pub mod Bounded
pub mod Starts
pub mod Stored
pub mod Seats
pub mod Panels
