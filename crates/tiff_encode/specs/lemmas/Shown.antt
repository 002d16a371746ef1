pub mod Color
pub mod Offsets
pub mod Parts
