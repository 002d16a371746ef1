-- The page that the tags of an image define.
pub mod Values
pub mod Colors
pub mod Checks
pub mod Tags
pub mod Page
