mod BeginningFacts
pub mod StandFacts
mod Crossing
mod SideFacts
mod LaneFacts
mod EndFacts
mod PanelFacts
