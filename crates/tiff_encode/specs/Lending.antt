-- The state of an encoder after a call that should begin a directory or an image returns an error.
use Rattle.std.specs.Prelude.{ℕ, Result}
use Rattle.std.specs.Borrow.{Fml, RattleType, MutBor, RestsIfErr}
use Rattle.tiff_base.specs.declared.error.TiffError.{TiffError}
use Rattle.tiff_base.specs.declared.io.Sink as sink
use Rattle.tiff_value.specs.declared.encoder.tiff_value.TiffValue as value
use Rattle.tiff_value.specs.ColorType.{ColorTypeRecord}
use Rattle.tiff_encode.specs.declared.encoder.kind.OffsetNumber as number
use Rattle.tiff_encode.specs.declared.encoder.kind.TiffKind as kind
use Rattle.tiff_encode.specs.declared.encoder.directory.state.DirectoryState.{DirectoryState}
use Rattle.tiff_encode.specs.declared.encoder.directory.encoder.DirectoryEncoder.{DirectoryEncoder}
use Rattle.tiff_encode.specs.contracts.encoder.TiffEncoder as encoder
use Rattle.tiff_encode.specs.Machine.{FileState, WriteOutcome}
use Rattle.tiff_encode.specs.Calls as calls
use Rattle.tiff_encode.specs.Ends.{EndsRefused}
use Rattle.tiff_encode.specs.Leaves.{LeavesRefused}

module _ (W K O : RattleType) (g : sink.Ghosts W.Denot) (h : kind.Ghosts K.Denot O.Denot)
    (n : number.Ghosts O.Denot) (v : value.Ghosts O.Denot) where
  abbrev pub rests : {D A : Type 0} → (FileState → WriteOutcome A) → MutBor FileState
      → Result (DirectoryEncoder W.Denot K.Denot D O.Denot) TiffError → Fml
  rests call e r =
      RestsIfErr (encoder.the_row W K O g h n v) e (λ d. d.encoder.ghost_name) r
      (λ last. EndsRefused (call e.now) r e.now last × LeavesRefused r e.now last)

  abbrev pub image_rests : MutBor FileState
      → Result (DirectoryEncoder W.Denot K.Denot DirectoryState O.Denot) TiffError → Fml
  image_rests = rests calls.image_directory

  abbrev pub extra_rests : MutBor FileState
      → Result (DirectoryEncoder W.Denot K.Denot DirectoryState O.Denot) TiffError → Fml
  extra_rests = rests calls.extra_directory

  abbrev pub new_image_rests : {D : Type 0} → ColorTypeRecord → ℕ → ℕ → ℕ → MutBor FileState
      → Result (DirectoryEncoder W.Denot K.Denot D O.Denot) TiffError → Fml
  new_image_rests color size width height = rests (calls.new_image color size width height)
