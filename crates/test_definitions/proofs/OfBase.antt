-- Proofs of the worked examples of `tiff_base`.
pub mod Runs
pub mod Directory
pub mod SourceAndSink
pub mod Answers
pub mod Windows
