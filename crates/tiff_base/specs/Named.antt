-- The numbers of the enums: conversions from number to value and back.
use Rattle.std.specs.Prelude.{◌≡◌, ℕ, Some}
use Rattle.tiff_base.specs.declared.tags.Tag.{Tag}
use Rattle.tiff_base.specs.declared.tags.«Type».{«Type»}
use Rattle.tiff_base.specs.declared.tags.CompressionMethod.{CompressionMethod}
use Rattle.tiff_base.specs.declared.tags.PhotometricInterpretation.{PhotometricInterpretation}
use Rattle.tiff_base.specs.declared.tags.PlanarConfiguration.{PlanarConfiguration}
use Rattle.tiff_base.specs.declared.tags.Predictor.{Predictor}
use Rattle.tiff_base.specs.declared.tags.ResolutionUnit.{ResolutionUnit}
use Rattle.tiff_base.specs.declared.tags.SampleFormat.{SampleFormat}
use Rattle.tiff_base.specs.declared.tags.ExtraSamples.{ExtraSamples}
use Rattle.tiff_base.specs.Tags.{tag_number, tag_of, named_tag, type_number, type_of, method_number, method_of, named_method, interpretation_number, interpretation_of, planar_number, planar_of, predictor_number, predictor_of, unit_number, unit_of, format_number, format_of, named_format, extra_number, extra_of}

-- Each number is the number of the tag, the method or the sample format that it names.
pub record NumbersComeBack : Type 0 where
  pub tags : (n : ℕ) → tag_number (tag_of n) ≡ n
  pub methods : (n : ℕ) → method_number (method_of n) ≡ n
  pub formats : (n : ℕ) → format_number (format_of n) ≡ n

-- A value that has a name is the value that its number names.
pub record NamesComeBack : Type 0 where
  pub tags : (tag named : Tag) → named_tag tag ≡ Some named
      → named_tag (tag_of (tag_number tag)) ≡ Some tag
  pub types : (type : «Type») → type_of (type_number type) ≡ Some type
  pub methods : (method named : CompressionMethod) → named_method method ≡ Some named
      → named_method (method_of (method_number method)) ≡ Some method
  pub interpretations : (meaning : PhotometricInterpretation)
      → interpretation_of (interpretation_number meaning) ≡ Some meaning
  pub planars : (planar : PlanarConfiguration) → planar_of (planar_number planar) ≡ Some planar
  pub predictors : (predictor : Predictor)
      → predictor_of (predictor_number predictor) ≡ Some predictor
  pub units : (unit : ResolutionUnit) → unit_of (unit_number unit) ≡ Some unit
  pub formats : (format named : SampleFormat) → named_format format ≡ Some named
      → named_format (format_of (format_number format)) ≡ Some format
  pub extras : (extra : ExtraSamples) → extra_of (extra_number extra) ≡ Some extra
