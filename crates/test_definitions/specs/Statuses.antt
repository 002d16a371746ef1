-- Worked examples of the definitions of `tiff_ffi`.
pub mod InWindows
pub mod Parents
pub mod Tiles
