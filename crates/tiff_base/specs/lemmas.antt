-- Lemmas that proofs of other crates cite. Each is proved here, and no contract needs them.
pub mod After
pub mod Blocks
pub mod Bytes
pub mod Causes
pub mod Common
pub mod Contents
pub mod Fits
pub mod Maps
pub mod MemoryFaults
pub mod Seen
pub mod Slices
