pub mod SortFacts
pub mod ReadFacts
pub mod ClassFacts
