-- Steps in sequence: one more step goes behind the steps that are done.
use Rattle.std.proofs.Common.{◌≡◌, ℕ, ◌+◌, ◌<◌, List, [], ◌∷◌, ◌++◌, length, take, get_or, Result, refl, ap, sym, ◌∙◌, subst}
use Rattle.tiff_base.specs.declared.error.TiffError.{TiffError}
use Rattle.tiff_encode.specs.declared.encoder.script.StepReply.{StepReply}
use Rattle.tiff_encode.specs.Machine.{FileState}
use Rattle.tiff_encode.specs.Jobs.{FileAndModel, AllStepped}
use Rattle.tiff_encode.specs.Stepping.{Moves}
use Rattle.tiff_encode.proofs.Moving.{grows_here, grows_on}
use Rattle.std.proofs.lemmas.List.{take_more}

module _ {S A : Type 0} (Stepped : FileAndModel → S → A → Result StepReply TiffError → FileAndModel → S → Type 0) where
  abbrev All : FileAndModel → S → List A → List (Result StepReply TiffError) → FileAndModel → S
      → Type 0
  All = AllStepped Stepped

  -- no step is done
  pub all_none : (old : FileAndModel) (s : S) → All old s [] [] old s
  all_none old s = (refl, refl)

  -- one more step, behind the steps that are done
  pub all_more : (old mid new : FileAndModel) (s next t : S) (steps : List A) (step : A)
      (rs : List (Result StepReply TiffError))
      (r : Result StepReply TiffError) → All old s steps rs mid next → Stepped mid next step r new t
      → All old s (steps ++ step ∷ []) (rs ++ r ∷ []) new t
  all_more old mid new s next t [] step [] r h one =
      let P : FileAndModel → Type 0 = λ m. Stepped m s step r new t in
      let Q : S → Type 0 = λ n. Stepped mid n step r new t in
      (new, (t, (subst P h.0 (subst Q h.1 one), (refl, refl))))
  all_more old mid new s next t [] step (x ∷ rs) r h one = absurd h
  all_more old mid new s next t (x ∷ steps) step [] r h one = absurd h
  all_more old mid new s next t (x ∷ steps) step (y ∷ rs) r h one =
      (h.0, (h.1.0, (h.1.1.0, all_more h.0 mid new h.1.0 next t steps step rs r h.1.1.1 one)))

  -- the step at an index, behind the steps before it
  pub all_next : (old mid new : FileAndModel) (s next t : S) (steps : List A) (step : A) (n : ℕ)
      (rs : List (Result StepReply TiffError))
      (r : Result StepReply TiffError) → n < length steps → step ≡ get_or steps n step
      → All old s (take n steps) rs mid next
      → Stepped mid next step r new t → All old s (take (n + 1) steps) (rs ++ r ∷ []) new t
  all_next old mid new s next t steps step n rs r l v h one =
      let more : take (n + 1) steps ≡ take n steps ++ step ∷ [] =
      take_more steps n step l ∙ ap (λ x. take n steps ++ x ∷ []) (sym v) in
      let P : List A → Type 0 = λ xs. All old s xs (rs ++ r ∷ []) new t in
      subst P (sym more) (all_more old mid new s next t (take n steps) step rs r h one)

-- one call, and another call in the file that the first one leaves
pub moves_joined : (P Q R : FileAndModel → FileAndModel → Type 0) (old mid new : FileState)
    → ((s m t : FileAndModel) → P s m → Q m t → R s t) → Moves P old mid → Moves Q mid new
    → Moves R old new
moves_joined P Q R old mid new j f g known s q k =
    let x = f known s q k in
    let y = g known x.0 x.1.0 x.1.1.1.0 in
    (y.0, (y.1.0, (j s x.0 y.0 x.1.1.0 y.1.1.0, (y.1.1.1.0, grows_on s.model x.0.model y.0.model x.1.1.1.1 y.1.1.1.1))))

-- nothing is done
pub moves_none : (P : FileAndModel → FileAndModel → Type 0) (file : FileState)
    → ((s : FileAndModel) → P s s) → Moves P file file
moves_none P file p known s q k = (s, (q, (p s, (k, grows_here s.model))))
