pub mod PageExamples
