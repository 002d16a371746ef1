-- What a call that only appends leaves in a file that a model describes.
use Rattle.std.proofs.Common.{◌≡◌, ℕ, List, ◌++◌, length, Result, Ok, Err, refl, ap, sym, ◌∙◌, inl, inr, subst}
use Rattle.std.proofs.Math.Seq.{take-length}
use Rattle.tiff_base.specs.declared.error.TiffError.{TiffError}
use Rattle.tiff_value.specs.Model.{Model, FileContains}
use Rattle.tiff_value.specs.WriteOps.{all_appended, model_after}
use Rattle.tiff_value.specs.FileLaws.{AreAppending, OpsFit}
use Rattle.tiff_encode.specs.Machine.{FileState, WriteOutcome}
use Rattle.tiff_encode.specs.Ends.{CallFails, Ends}
use Rattle.tiff_encode.specs.Leaves.{Leaves}
use Rattle.tiff_value.specs.lemmas.File.WriteOps.{ops_append, ops_stand}
use Rattle.tiff_encode.proofs.Joining.{Adds, IsAdding, adding, ends_torn}
use Rattle.tiff_encode.proofs.Leaving.{begun_leaves}

module _ {Y : Type 0} (told : WriteOutcome Y) (old new : FileState) (a : IsAdding told old) where
  -- the appended bytes are all that the call changes in the file
  told_bytes : new ≡ told.next → new.bytes ≡ old.bytes ++ all_appended old.kind told.ops
  told_bytes h = ap (λ f. f.bytes) (h ∙ a.next)

-- after a call that only appends fails, the earlier model still describes the file
pub failed_so : {Y : Type 0} (told : WriteOutcome Y) (e : TiffError) (old new : FileState)
    (m : Model) → IsAdding told old
    → CallFails told e old new → FileContains old.kind old.bytes m
    → FileContains old.kind new.bytes m
failed_so told e old new m a h s =
    let all : List ℕ = all_appended old.kind told.ops in
    elim h as (λ _. FileContains old.kind new.bytes m) [
      | inl t ↦ begun_leaves told.ops (length all) old new.bytes m
          (told_bytes told old new a t.state ∙ ap (λ xs. old.bytes ++ xs) (sym (take-length all))) s
      | inr h ↦ elim h [
        | inl c ↦ begun_leaves told.ops c.count old new.bytes m (ap (λ file. file.bytes) c.state) s
        | inr h ↦ elim h [
          | inl t ↦ absurd (ends_torn t.before t.offset t.target (subst (λ ds. AreAppending ds) t.last a.appending))
          | inr c ↦ begun_leaves told.ops c.count old new.bytes m (ap (λ file. file.bytes) c.state) s
        ]
      ]
    ]

pub failed_leaves : {Y : Type 0} (told : WriteOutcome Y) (e : TiffError) (old new : FileState)
    (m : Model) → Adds told old
    → CallFails told e old new → FileContains old.kind old.bytes m
    → FileContains old.kind new.bytes m
failed_leaves told e old new m a h s = failed_so told e old new m (adding told old a) h s

-- If a call succeeds and its changes fit, the changed model describes the file. If a call fails,
-- the earlier model still describes the file.
pub left_so : {X Y : Type 0} (view : X → Y) (told : WriteOutcome Y) (r : Result X TiffError)
    (old new : FileState) (m : Model)
    → IsAdding told old → ((x : X) → r ≡ Ok x → OpsFit old.kind old.bytes m told.ops)
    → FileContains old.kind old.bytes m
    → Ends view told r old new → Leaves told r old new m
left_so view told (Ok x) old new m a f s e =
    let same =
    ops_append old.kind old.bytes told.ops a.appending
    ∙ sym (told_bytes told old new a e.state) in
    subst (λ b. FileContains old.kind b (model_after old.kind old.bytes m told.ops)) same
    (ops_stand old.kind old.bytes m told.ops s (f x refl))
left_so view told (Err fault) old new m a f s e = failed_so told fault old new m a e s

pub adds_leaves : {X Y : Type 0} (view : X → Y) (told : WriteOutcome Y) (r : Result X TiffError)
    (old new : FileState) (m : Model)
    → Adds told old → OpsFit old.kind old.bytes m told.ops → FileContains old.kind old.bytes m
    → Ends view told r old new → Leaves told r old new m
adds_leaves view told r old new m a f s e =
    left_so view told r old new m (adding told old a) (λ _ _. f) s e
