-- Proofs of the worked examples of `tiff_value`.
pub mod Packed
pub mod Values
