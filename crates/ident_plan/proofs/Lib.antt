pub mod Own
pub mod KinFacts
pub mod KeyFacts
