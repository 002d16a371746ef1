mod LastLink
pub mod Added
