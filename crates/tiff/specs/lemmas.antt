-- Lemmas of the crates below, for callers.
pub use Rattle.tiff_base.specs.lemmas.Causes
pub use Rattle.tiff_base.specs.lemmas.MemoryFaults
pub use Rattle.tiff_decode.specs.lemmas.NextState
pub use Rattle.tiff_encode.specs.lemmas.Samples
