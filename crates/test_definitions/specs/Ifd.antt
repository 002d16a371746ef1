-- Worked examples of the definitions of `tiff_ifd`.
pub mod FieldValue
pub mod TagLookup
pub mod Chain
pub mod Into
pub mod TagQueries
pub mod View
pub mod Stream
pub mod IfdChainWalk
pub mod Unpacking
pub mod Stretches
