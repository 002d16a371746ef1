-- Proofs of the worked examples of `tiff_ifd`.
pub mod TagLookup
pub mod Chain
pub mod TagQueries
pub mod View
pub mod IfdChainWalk
pub mod Stretches
