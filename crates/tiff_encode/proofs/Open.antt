-- An open image.
pub mod Held
pub mod Tags
pub mod Kept
pub mod Settings
pub mod Begun
pub mod Chunks
pub mod Ends
pub mod SettingsLeft
