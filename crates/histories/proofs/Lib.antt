pub mod HistoryFacts
