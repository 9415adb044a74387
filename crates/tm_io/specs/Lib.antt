pub mod Causes
pub mod Octets
pub mod Stops
pub mod Files
pub mod MemShelf
pub mod MemSink
