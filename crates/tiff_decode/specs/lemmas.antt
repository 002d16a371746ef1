-- Lemmas that proofs of other crates cite. Each is proved here, and no contract needs them.
pub mod ChainPosition
pub mod NextState
pub mod Pieces
