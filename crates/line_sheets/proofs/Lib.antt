pub mod PlayFacts
pub mod LyingFacts
pub mod PlayedFacts
pub mod AddFacts
pub mod PacketFacts
pub mod PlaceFacts
pub mod AskedFacts
