-- Lemmas that proofs of other crates cite. Each is proved here, and no contract needs them.
pub mod Bands
pub mod ChunkAlone
pub mod ChunkRows
pub mod Covering
pub mod Filling
pub mod ListedChunks
pub mod NumberBytes
pub mod OutputRow
pub mod PassedChecks
pub mod Planes
pub mod PositionLaws
pub mod Rects
pub mod Requests
pub mod Rows
pub mod ShownNumbers
pub mod WrittenNumbers
