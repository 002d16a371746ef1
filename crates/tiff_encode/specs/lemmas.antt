-- Lemmas that proofs of other crates cite. Each is proved here, and no contract needs them.
pub mod Data
pub mod FormerBytes
pub mod GoingOn
pub mod ImageState
pub mod JobSamples
pub mod LongerChain
pub mod NumbersIn
pub mod Samples
pub mod Shown
