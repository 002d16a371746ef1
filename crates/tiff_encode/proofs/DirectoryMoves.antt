-- A step of a directory leads from each `FileAndModel` of the file before it to a `FileAndModel` of
-- the file after it.
use Rattle.std.proofs.Common.{◌≡◌, ◌∙◌, ℕ, List, Result, Ok, Err, refl, sym, subst, append-nil}
use Rattle.std.specs.Prelude.{OnErr}
use Rattle.tiff_base.specs.declared.error.TiffError.{TiffError}
use Rattle.tiff_base.specs.declared.tags.Tag.{Tag}
use Rattle.tiff_base.specs.Field.{Field}
use Rattle.tiff_encode.specs.declared.encoder.script.DirectoryStep.{DirectoryStep}
use Rattle.tiff_encode.specs.declared.encoder.script.StepReply.{StepReply}
use Rattle.tiff_value.specs.Model.{Model, FileContains}
use Rattle.tiff_value.specs.WriteOps.{WriteOp, model_after}
use Rattle.tiff_encode.specs.Machine.{FileState, OpenDirectory, WriteOutcome, WriteCall, gives, and_then}
use Rattle.tiff_encode.specs.Calls.{with_field}
use Rattle.tiff_encode.specs.Ends.{EndsAsDefined, Ends}
use Rattle.tiff_encode.specs.Extending.{Extends}
use Rattle.tiff_encode.specs.ImageStepping.{reply_to, reply_by}
use Rattle.tiff_encode.specs.Jobs.{FileAndModel, Changes, Replies, ExtendStep, DirectoryStepped}
use Rattle.tiff_encode.specs.Leaves.{Leaves}
use Rattle.tiff_encode.specs.Stepping.{Moves}
use Rattle.tiff_encode.specs.GivenValues.{Value, entry_of, tag_of}
use Rattle.tiff_encode.proofs.Guarding.{tag_called}
use Rattle.tiff_encode.proofs.Joining.{Adds, adding}
use Rattle.tiff_encode.proofs.Moving.{grows_here, Seen, moves_so}

-- ---- a tag that has the field of a written value

module _ (d : OpenDirectory) (t : Tag) (field : Field) (old new : FileState) (m : Model) where
  -- what a call writes for the field is in the file
  given_kept : (r : Result Field TiffError) (ops : List WriteOp) (next : FileState) → r ≡ Ok field
      → FileContains old.kind new.bytes (model_after old.kind old.bytes m ops)
      → FileContains old.kind new.bytes (model_after old.kind old.bytes m (and_then r ops next (λ f. gives (with_field d t f))).ops)
  given_kept r ops next h s =
      let P : Result Field TiffError → Type 0 = λ q.
      FileContains old.kind new.bytes (model_after old.kind old.bytes m (and_then q ops next (λ f. gives (with_field d t f))).ops) in
      let Q : List WriteOp → Type 0 =
      λ ds. FileContains old.kind new.bytes (model_after old.kind old.bytes m ds) in
      subst P (sym h) (subst Q (sym (append-nil ops)) s)

  -- the directory has the field
  pub tag_kept : (v : Value) → EndsAsDefined (entry_of v old) (Ok field) new
      → FileContains old.kind new.bytes (model_after old.kind old.bytes m (entry_of v old).ops)
      → FileContains old.kind new.bytes (model_after old.kind old.bytes m (tag_of d t v old).ops)
  tag_kept v h s =
      let told : WriteOutcome Field = entry_of v old in
      subst (λ (set : WriteOutcome OpenDirectory). FileContains old.kind new.bytes (model_after old.kind old.bytes m set.ops)) (sym (tag_called d t v old))
      (given_kept told.answer told.ops told.next h.answer s)

-- ---- from a call to a step

moves_as : (P Q : FileAndModel → FileAndModel → Type 0) (old new : FileState)
    → ((s t : FileAndModel) → P s t → Q s t) → Moves P old new
    → Moves Q old new
moves_as P Q old new f g known s q k =
    let x = g known s q k in (x.0, (x.1.0, (f s x.0 x.1.1.0, x.1.1.1)))

-- what a call leaves of each model of the file
abbrev LeftBy : {X Y : Type 0} → WriteCall Y → Result X TiffError → FileState → FileState → Type 0
LeftBy call r old new =
    (m : Model) → FileContains old.kind old.bytes m → Leaves (call old) r old new m

module _ (d e : OpenDirectory) where
  changes : (call : WriteCall OpenDirectory) (r : Result (Unit {0}) TiffError) → OnErr r (e ≡ d)
      → (s t : FileAndModel) → Seen (λ (_ : Unit {0}). e) (call s.file) r s t
      → Changes call d (reply_to r) s t e
  changes call (Ok x) q s t h = h
  changes call (Err fault) q s t h = (q, h)

  replies : {A : Type 0} (view : A → StepReply) (call : WriteCall A) (r : Result A TiffError)
      → e ≡ d → (s t : FileAndModel) → Seen (λ (x : A). x) (call s.file) r s t
      → Replies view call d (reply_by view r) s t e
  replies view call (Ok x) q s t h = (q, (x, (refl, h)))
  replies view call (Err fault) q s t h = (q, h)

  extends : (given : List (ℕ × Field)) (r : Result (Unit {0}) TiffError) → Extends given d e r
      → (s : FileAndModel) → ExtendStep given d (reply_to r) s s e
  extends given (Ok x) h s = (h, refl)
  extends given (Err fault) h s = (h.0, (h.1.0, (h.1.1, refl)))

module _ (d e : OpenDirectory) {old new : FileState} where
  -- equal steps with equal replies do the same
  pub stepped_by : {x y : DirectoryStep} {r said : Result StepReply TiffError} → x ≡ y → r ≡ said
      → Moves (λ s t. DirectoryStepped s d y said t e) old new
      → Moves (λ s t. DirectoryStepped s d x r t e) old new
  stepped_by {y = y} {r = r} q a h =
      let P : DirectoryStep → Type 0 =
      λ z. Moves (λ s t. DirectoryStepped s d z r t e) old new in
      subst P (sym q) (subst (λ z. Moves (λ s t. DirectoryStepped s d y z t e) old new) (sym a) h)

  -- a step whose call returns a directory changes the directory, unless it fails
  pub changed : (call : WriteCall OpenDirectory) (r : Result (Unit {0}) TiffError)
      → Adds (call old) old → Ends (λ (_ : Unit {0}). e) (call old) r old new → LeftBy call r old new
      → OnErr r (e ≡ d)
      → Moves (λ s t. Changes call d (reply_to r) s t e) old new
  changed call r a h l q =
      let view : Unit {0} → OpenDirectory = λ _. e in
      let P : FileAndModel → FileAndModel → Type 0 = λ s t. Seen view (call s.file) r s t in
      let Q : FileAndModel → FileAndModel → Type 0 = λ s t. Changes call d (reply_to r) s t e in
      moves_as P Q old new (changes d e call r q) (moves_so view call r old new (adding (call old) old a) h l)

  -- a step whose call returns a value keeps the directory
  pub replied : {A : Type 0} (view : A → StepReply) (call : WriteCall A) (r : Result A TiffError)
      → Adds (call old) old → Ends (λ (x : A). x) (call old) r old new → LeftBy call r old new → e ≡ d
      → Moves (λ s t. Replies view call d (reply_by view r) s t e) old new
  replied {A = A} view call r a h l q =
      let P : FileAndModel → FileAndModel → Type 0 =
      λ s t. Seen (λ (x : A). x) (call s.file) r s t in
      let Q : FileAndModel → FileAndModel → Type 0 =
      λ s t. Replies view call d (reply_by view r) s t e in
      moves_as P Q old new (replies d e view call r q) (moves_so (λ (x : A). x) call r old new (adding (call old) old a) h l)

  -- a step that takes the fields of another directory writes nothing
  pub extended : (given : List (ℕ × Field)) (r : Result (Unit {0}) TiffError)
      → Extends given d e r → new ≡ old
      → Moves (λ s t. ExtendStep given d (reply_to r) s t e) old new
  extended given r x q known s f k =
      (s, (f ∙ sym q, (extends d e given r x s, (k, grows_here s.model))))
