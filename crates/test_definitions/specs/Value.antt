-- Worked examples of the definitions of `tiff_value`.
pub mod Data
pub mod Packed
pub mod Values
