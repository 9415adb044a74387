pub mod PanelFacts
