pub mod Slices
pub mod Counting
pub mod StatusTells
pub mod Writing
pub mod Delivered
pub mod Listed
mod Ranges
mod FirstFault
mod JobsListed
pub mod Filled
pub mod Planes
mod FrameFront
mod FrameStrips
mod Framed
mod Placing
mod FrameAlike
mod BytesBack
mod FrameZeros
mod FrameWritten
pub mod PagesMade
pub mod Counts
pub mod ParentsRan
pub mod BehindRan
pub mod PagesRan
pub mod FramedPages
pub mod Links
pub mod ToldBehind
mod Plans
mod Rewritten
pub mod SeenFiles
mod Parts
mod Spliced
mod Stored
mod Stretches
mod Tiles
