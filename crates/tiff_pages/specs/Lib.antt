pub mod Pages
pub mod Adler
pub mod Check
pub mod Listed
pub mod Tree
pub mod Plan
pub mod OfFile
pub mod lemmas
