-- What the chunks and the images of a file show.
pub mod Alike
pub mod Undone
pub mod Data
pub mod Packed
pub mod Whole
pub mod Chunks
pub mod Images
pub mod Gray
