-- A call leads from each `FileAndModel` of the file before it to a `FileAndModel` of the file after
-- it.
use Rattle.std.proofs.Common.{◌≡◌, Bool, Result, Ok, Err, refl, ap, sym, ◌∙◌, inl, inr, subst}
use Rattle.tiff_base.specs.declared.error.TiffError.{TiffError}
use Rattle.tiff_value.specs.Model.{Model, FileContains, Grows}
use Rattle.tiff_value.specs.WriteOps.{model_after}
use Rattle.tiff_value.specs.FileLaws.{AreAppending}
use Rattle.tiff_encode.specs.Machine.{FileState, WriteOutcome, WriteCall}
use Rattle.tiff_encode.specs.Ends.{Ends}
use Rattle.tiff_encode.specs.Leaves.{Leaves}
use Rattle.tiff_encode.specs.Jobs.{FileAndModel, IsDone, Refuses}
use Rattle.tiff_encode.specs.Stepping.{StandsIfKnown, Moves}
use Rattle.tiff_value.specs.lemmas.File.WriteOps.{ops_grow}
use Rattle.tiff_encode.proofs.Joining.{IsAdding, ends_torn}

-- a model grows from itself
pub grows_here : (m : Model) → Grows m m
grows_here m = record { directories = λ d i. i; supplied = λ h i. i; regions = λ r i. i }

pub grows_on : (m n o : Model) → Grows m n → Grows n o → Grows m o
grows_on m n o g h = record {
  directories = λ d i. h.directories d (g.directories d i);
  supplied = λ x i. h.supplied x (g.supplied x i);
  regions = λ r i. h.regions r (g.regions r i);
}

-- a call succeeds as specified, or it fails
abbrev pub Seen : {X Y : Type 0} → (X → Y) → WriteOutcome Y → Result X TiffError → FileAndModel
    → FileAndModel → Type 0
Seen view told (Ok x) s t = IsDone told (Ok (view x)) s t
Seen view told (Err e) s t = Refuses told e s t

-- a `FileAndModel` of the file that a call leaves
abbrev pub Led : (FileAndModel → Type 0) → Bool → FileAndModel → FileState → Type 0
Led P known s new =
    (t : FileAndModel) × ((t.file ≡ new) × (P t × (StandsIfKnown known t × Grows s.model t.model)))

module _ {X Y : Type 0} (view : X → Y) (told : WriteOutcome Y) (s : FileAndModel) (new : FileState)
    (known : Bool) (k : StandsIfKnown known s)
    (a : IsAdding told s.file) where
  abbrev here : FileAndModel
  here = record { file = new; model = s.model }

  -- where each model that describes the file before also describes the file after the call
  stays_known : (P : FileAndModel → Type 0) → new.kind ≡ s.file.kind
      → ((m : Model) → FileContains s.file.kind s.file.bytes m
      → FileContains s.file.kind new.bytes m) → P here → Led P known s new
  stays_known P same l p =
      (here, (refl, (p, ((λ q. subst (λ kind. FileContains kind new.bytes s.model) (sym same) (l s.model (k q))), grows_here s.model))))

  -- A call that only appends succeeds as specified, or it fails.
  pub seen : (r : Result X TiffError) → Ends view told r s.file new
      → ((m : Model) → FileContains s.file.kind s.file.bytes m → Leaves told r s.file new m)
      → Led (Seen view told r s) known s new
  seen (Ok x) e l =
      let m : Model = model_after s.file.kind s.file.bytes s.model told.ops in
      let same : new.kind ≡ s.file.kind = ap (λ f. f.kind) (e.state ∙ a.next) in (
        record { file = new; model = m },
        (
          refl,
          (
            record { ended = e; model = refl },
            ((λ q. subst (λ kind. FileContains kind new.bytes m) (sym same) (l s.model (k q))), ops_grow s.file.kind s.file.bytes s.model told.ops),
          ),
        ),
      )
  seen (Err fault) e l =
      let r : Result X TiffError = Err fault in
      let P : FileAndModel → Type 0 = Seen view told r s in
      elim e as (λ _. Led P known s new) [
        | inl t ↦ stays_known P (ap (λ f. f.kind) (t.state ∙ a.next)) l (inl (refl, t))
        | inr e ↦ elim e [
          | inl c ↦ stays_known P (ap (λ f. f.kind) c.state) l (inr (inr (inl (refl, c))))
          | inr e ↦ elim e [
            | inl t ↦ absurd (ends_torn t.before t.offset t.target (subst (λ ds. AreAppending ds) t.last a.appending))
            | inr c ↦ stays_known P (ap (λ f. f.kind) c.state) l (inr (inr (inr (refl, c))))
          ]
        ]
      ]

-- a call that only appends leads on from each `FileAndModel` of the file
pub moves_so : {X Y : Type 0} (view : X → Y) (call : WriteCall Y) (r : Result X TiffError)
    (old new : FileState)
    → IsAdding (call old) old → Ends view (call old) r old new
    → ((m : Model) → FileContains old.kind old.bytes m → Leaves (call old) r old new m)
    → Moves (λ s t. Seen view (call s.file) r s t) old new
moves_so {X = X} {Y = Y} view call r old new a e l known s q k =
    let Q : FileState → Type 0 = λ old. IsAdding (call old) old → Ends view (call old) r old new
    → ((m : Model) → FileContains old.kind old.bytes m → Leaves (call old) r old new m)
    → Led (λ t. Seen view (call s.file) r s t) known s new in
    subst Q q (λ a e l. seen view (call s.file) s new known k a r e l) a e l
