pub use Rattle.tiff_encode.proofs.Shown.Gray
pub mod OnLiterals
