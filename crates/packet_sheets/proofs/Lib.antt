pub mod StretchFacts
pub mod SheetFacts
