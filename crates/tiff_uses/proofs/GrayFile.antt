-- The file of a gray page, or the error, by a new encoder over an empty sink.
use Rattle.std.proofs.Common.{◌≡◌, ◌⊎◌, ℕ, List, [], map, None, Some, Result, IfOk, inr, ap, ◌∙◌, subst}
use Rattle.tiff_base.specs.declared.error.TiffError.{TiffError}
use Rattle.tiff_base.specs.declared.io.SinkFault.TheVariants as sink
use Rattle.tiff_base.specs.declared.tags.FileKind.TheVariants.{Classic}
use Rattle.tiff_value.specs.declared.encoder.colortype.ColorTypeName.TheVariants.{Gray8}
use Rattle.tiff_value.specs.ColorType.{ColorTypeRecord, sample_number}
use Rattle.tiff_value.specs.ColorTypes.{color_type, inner_size}
use Rattle.tiff_decode.specs.NextState.{view_of_result}
use Rattle.tiff_encode.specs.Machine.{FileState, begun_file}
use Rattle.tiff_encode.specs.ImageData.{WritesImage}
use Rattle.tiff_uses.specs.GrayFile.{AnswersGray, WritesAlone}

abbrev Writes : ColorTypeRecord → ℕ → ℕ → ℕ → List ℕ → Result (List ℕ) TiffError → FileState
    → FileState → Type 0
Writes color size width height samples answer start last =
    WritesImage color size width height samples (view_of_result {Y = Unit {0}} (λ _. tt) answer) start last

-- an image that was written behind a new header
pub alone : (color : ColorTypeRecord) (size width height : ℕ) (samples contents : List ℕ)
    (failures : ℕ) (start last : FileState) (answer : Result (List ℕ) TiffError)
    → start ≡ begun_file Classic contents failures → contents ≡ []
    → Writes color size width height samples answer start last
    → (last.fault ≡ None) ⊎ (last.fault ≡ Some sink.OutOfMemory)
    → IfOk answer (λ file. file ≡ last.bytes)
    → WritesAlone color size width height samples answer
alone color size width height samples contents failures start last answer is empty written fault file = record {
  failures = failures;
  last = last;
  written =
      subst (λ s. Writes color size width height samples answer s last) (is
      ∙ ap (λ t. begun_file Classic t failures) empty) written;
  fault = fault;
  file = file;
}

pub gray_answered : (width height : ℕ) (samples contents : List ℕ) (failures : ℕ)
    (start last : FileState) (answer : Result (List ℕ) TiffError)
    → start ≡ begun_file Classic contents failures → contents ≡ []
    → Writes (color_type Gray8) (inner_size Gray8) width height (map (sample_number 1 (λ n. n)) samples) answer start last
    → (last.fault ≡ None) ⊎ (last.fault ≡ Some sink.OutOfMemory)
    → IfOk answer (λ file. file ≡ last.bytes) → AnswersGray width height samples answer
gray_answered width height samples contents failures start last answer is empty written fault file =
    inr (alone (color_type Gray8) (inner_size Gray8) width height (map (sample_number 1 (λ n. n)) samples) contents failures start last answer is empty written fault file)
