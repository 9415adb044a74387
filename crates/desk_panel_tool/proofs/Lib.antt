pub mod StationFacts
pub mod PanelFacts
pub mod WholeFacts
