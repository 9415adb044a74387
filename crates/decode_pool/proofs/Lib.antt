pub mod Works
pub mod Pairs
pub mod AccountFacts
pub mod FlowFacts
pub mod PutFacts
pub mod JoinFacts
