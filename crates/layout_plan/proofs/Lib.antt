pub mod ReadFacts
pub mod SpanFacts
pub mod LayoutFacts
pub mod ValueFacts
