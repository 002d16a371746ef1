-- Worked examples of the definitions of `tiff_decode`.
pub mod Outcome
pub mod Machine
pub mod OutcomeQueries
pub mod OutcomePixels
pub mod Steps
pub mod Reader
pub mod Asked
pub mod Tree
