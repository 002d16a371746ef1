-- Worked examples of the definitions of `tiff_page`.
pub mod Layout
pub mod Pixels
pub mod Buffers
pub mod PixelCalls
pub mod EarlyFaults
pub mod Reach
pub mod Checks
pub mod Row
