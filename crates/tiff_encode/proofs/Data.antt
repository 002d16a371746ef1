-- How a call writes the data of an image, and what the file contains after the call.
pub mod Calls
pub mod Chunks
pub mod Leaves
pub mod Parts
pub mod Open
pub mod Shows
pub mod Begun
pub mod Image
pub mod Pieces
pub mod Written
pub mod Cutting
pub mod Strips
