pub mod Standing
pub mod OfChunks
pub mod ReadBack
pub mod GrayFile
