mod LineFacts
mod ComesFacts
mod ScriptFacts
pub mod DeskFacts
