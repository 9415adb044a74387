mod KeyFacts
pub mod SavingFacts
pub mod ScriptFacts
