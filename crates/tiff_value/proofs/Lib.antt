pub mod Values
pub mod Predicted
pub mod Chunk
pub mod Lowest
pub mod Lanes
pub mod Parts
pub mod Bands
