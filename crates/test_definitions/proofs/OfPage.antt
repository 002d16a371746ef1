-- Proofs of the worked examples of `tiff_page`.
pub mod Reach
pub mod Row
