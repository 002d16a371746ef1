-- What a model describes in a file, and what is read back of it.
pub mod Listing
pub mod Header
pub mod Headers
pub mod Kept
pub mod Entries
pub mod FitsEntries
pub mod FileAndModel
pub mod Grown
pub mod WriteOps
pub mod Agree
pub mod FirstPage
