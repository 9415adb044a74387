pub mod ToCome
pub mod Pieces
pub mod Reader
pub mod Gives
pub mod Given
pub mod Requests
