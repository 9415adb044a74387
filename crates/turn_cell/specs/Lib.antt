pub mod Standings
pub mod Views
pub mod Rule
pub mod Seats
