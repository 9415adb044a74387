pub mod AskExamples
