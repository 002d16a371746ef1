-- The decoder reads back what the encoder writes.
pub mod Entries
pub mod Written
pub mod Whole
