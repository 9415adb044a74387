pub mod FeedFacts
pub mod TextFacts
pub mod CountFacts
pub mod NameFacts
pub mod SoundTables
