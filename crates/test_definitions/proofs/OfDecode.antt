-- Proofs of the worked examples of `tiff_decode`.
pub mod Outcome
pub mod Machine
pub mod OutcomeQueries
pub mod Steps
pub mod Reader
pub mod Asked
