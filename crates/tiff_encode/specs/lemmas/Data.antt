pub mod Cut
pub mod Offsets
