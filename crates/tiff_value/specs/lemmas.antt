-- Lemmas that proofs of other crates cite. Each is proved here, and no contract needs them.
pub mod Bytes
pub mod ColorTypes
pub mod Data
pub mod Differences
pub mod File
pub mod PackedRows
pub mod Packing
pub mod Put
