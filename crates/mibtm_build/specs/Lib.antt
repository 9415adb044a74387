pub mod Operands
pub mod Codes
pub mod Answers
pub mod Runs
pub mod Statement
