pub mod RegisterFacts
pub mod BoundedFacts
pub mod KeptFacts
pub mod StoredFacts
pub mod SeatFacts
pub mod ShownFacts
pub mod PanelFacts
