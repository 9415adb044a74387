pub mod Answers
pub mod Left
pub mod RowsRead
pub mod Laws
