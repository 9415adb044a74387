pub mod RuleFacts
pub mod SheetFacts
