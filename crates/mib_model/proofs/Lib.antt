mod PaddingFacts
mod WordFacts
