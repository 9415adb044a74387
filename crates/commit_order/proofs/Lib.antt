pub mod PlaceFacts
