pub mod LayoutFacts
