-- A page.
use Rattle.std.specs.Prelude.{ℕ, List}
use Rattle.tiff_base.specs.declared.tags.PhotometricInterpretation.{PhotometricInterpretation}
use Rattle.tiff_base.specs.declared.tags.CompressionMethod.{CompressionMethod}
use Rattle.tiff_base.specs.declared.tags.PlanarConfiguration.{PlanarConfiguration}
use Rattle.tiff_base.specs.declared.tags.Predictor.{Predictor}
use Rattle.tiff_base.specs.declared.tags.SampleFormat.{SampleFormat}
use Rattle.tiff_base.specs.declared.tags.ExtraSamples.{ExtraSamples}
use Rattle.tiff_base.specs.declared.color.ChunkType.{ChunkType}

-- what the checks return
pub record PageRecord : Type 0 where
  pub width : ℕ
  pub height : ℕ
  pub interpretation : PhotometricInterpretation
  pub method : CompressionMethod
  pub samples : ℕ
  pub extra : List ExtraSamples
  pub format : SampleFormat
  pub depth : ℕ
  pub predictor : Predictor
  pub planar : PlanarConfiguration
  pub subsampling : ℕ × ℕ
  pub chunk_type : ChunkType
  pub chunk_width : ℕ
  pub chunk_height : ℕ
  pub offsets : List ℕ
  pub byte_counts : List ℕ

-- the chunks of a page
pub record Chunks : Type 0 where
  pub chunk_width : ℕ
  pub chunk_height : ℕ
  pub offsets : List ℕ
  pub byte_counts : List ℕ
