pub mod LastLink
pub mod GhostBytes
pub mod Added
pub mod Source
pub mod Behind
pub mod lemmas
