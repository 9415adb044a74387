pub mod OneEdition
pub mod RegisterFacts
pub mod DeskFacts
pub mod AloneFacts
pub mod DeskFirst
