-- Proofs of the worked examples of `tiff_encode`.
pub mod FileBytes
pub mod Causes
pub mod Calls
pub mod Chunks
pub mod Model
pub mod Jobs
pub mod Encoder
pub mod Leaves
pub mod ImageJobs
pub mod Open
pub mod ImageData
pub mod ImageDataWholes
pub mod Tagging
pub mod JobLists
