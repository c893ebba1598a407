pub mod CaptionShort
pub mod CaptionSizes
pub mod Weights
pub mod Texts
pub mod Back
pub mod Captions
pub mod Writing
pub mod Walk
