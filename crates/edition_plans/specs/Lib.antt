pub mod Layouts
pub mod Params
