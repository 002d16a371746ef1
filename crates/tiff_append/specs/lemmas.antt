-- Lemmas that proofs of other crates cite. Each is proved here, and no contract needs them.
pub mod Behind
