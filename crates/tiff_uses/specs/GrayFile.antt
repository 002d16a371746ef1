-- A file of one page that is written into memory, or the error.
use Rattle.std.specs.Prelude.{◌≡◌, ◌⊎◌, ℕ, List, [], None, Some, Result, Err, IfOk, map}
use Rattle.tiff_base.specs.declared.error.TiffError.{TiffError}
use Rattle.tiff_base.specs.declared.error.TiffError.TheVariants.{OutOfMemory}
use Rattle.tiff_base.specs.declared.io.SinkFault.TheVariants as sink
use Rattle.tiff_base.specs.declared.tags.FileKind.TheVariants.{Classic}
use Rattle.tiff_value.specs.declared.encoder.colortype.ColorTypeName.TheVariants.{Gray8}
use Rattle.tiff_value.specs.ColorType.{ColorTypeRecord, sample_number}
use Rattle.tiff_value.specs.ColorTypes.{color_type, inner_size}
use Rattle.tiff_decode.specs.NextState.{view_of_result}
use Rattle.tiff_encode.specs.Machine.{FileState, begun_file}
use Rattle.tiff_encode.specs.ImageData.{WritesImage}

-- What `write_image` returns for samples of so many bytes behind the header of a new file, over a
-- sink that fails only when memory is out: the file, or the first error of the image.
pub record WritesAlone (color : ColorTypeRecord) (size width height : ℕ) (samples : List ℕ)
    (answer : Result (List ℕ) TiffError)
    : Type 0 where
  pub failures : ℕ
  pub last : FileState
  pub written : WritesImage color size width height samples
      (view_of_result {Y = Unit {0}} (λ _. tt) answer) (begun_file Classic [] failures) last
  pub fault : (last.fault ≡ None) ⊎ (last.fault ≡ Some sink.OutOfMemory)
  pub file : IfOk answer (λ file. file ≡ last.bytes)

-- the gray page is written, or memory is out
abbrev pub AnswersGray : ℕ → ℕ → List ℕ → Result (List ℕ) TiffError → Type 0
AnswersGray width height samples answer =
    (answer ≡ Err OutOfMemory)
    ⊎ WritesAlone (color_type Gray8) (inner_size Gray8) width height
    (map (sample_number 1 (λ n. n)) samples) answer
