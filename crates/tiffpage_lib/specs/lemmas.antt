-- Lemmas that sources cite. Each is proved here, and no contract needs them.
pub mod Memory
