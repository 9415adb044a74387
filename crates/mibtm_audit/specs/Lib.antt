pub mod Operands
pub mod Codes
pub mod Courses
pub mod Comparing
pub mod Statement
