-- Lemmas that proofs of other crates cite. Each is proved here, and no contract needs them.
pub mod Begun
pub mod Chain
pub mod Entries
pub mod Fitted
pub mod Items
pub mod Links
pub mod OneNumber
pub mod Unpacking
pub mod Unsigned
pub mod Within
