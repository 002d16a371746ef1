-- How the encoder runs a job.
pub mod Ends
pub mod Images
pub mod Kept
pub mod KeptImages
pub mod Steps
pub mod All
pub mod Behind
