pub mod ChunkBands
mod Callers
mod Fitted
