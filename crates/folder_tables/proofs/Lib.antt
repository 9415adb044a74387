pub mod LoadSteps
