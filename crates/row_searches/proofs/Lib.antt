pub mod NestingFacts
