-- Worked examples of the definitions of `tiff_base`.
pub mod Number
pub mod Header
pub mod Tags
pub mod Runs
pub mod Directory
pub mod FieldBytes
pub mod SourceAndSink
pub mod Answers
pub mod Windows
