-- Proofs of the worked examples of `tiff_ffi`.
pub mod InWindows
