pub mod Line
pub mod Requests
pub mod Behind
pub mod Boards
pub mod Panels
