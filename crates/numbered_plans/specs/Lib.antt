pub mod Numbered
pub mod Layouts
pub mod Kept
pub mod Structures
pub mod Apart
pub mod Laws
