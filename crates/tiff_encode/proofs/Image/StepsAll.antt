-- The steps of an image in sequence.
use Rattle.std.proofs.Common.{◌≡◌, ℕ, ◌+◌, ◌<◌, true, List, [], ◌∷◌, ◌++◌, length, take, get_or, Result, refl, ap, sym, ◌∙◌, subst}
use Rattle.std.proofs.lemmas.List.{take_more}
use Rattle.std.specs.Prelude.{◌&&◌}
use Rattle.tiff_base.specs.declared.error.TiffError.{TiffError}
use Rattle.tiff_encode.specs.declared.encoder.script.ImageStep.{ImageStep}
use Rattle.tiff_encode.specs.declared.encoder.script.StepReply.{StepReply}
use Rattle.tiff_encode.specs.Machine.{FileState, OpenImage}
use Rattle.tiff_encode.specs.Open.{RecordsImage}
use Rattle.tiff_encode.specs.Jobs.{FileAndModel, Drawn, ImageStepped, AllStepped, is_apart, are_apart}
use Rattle.tiff_encode.specs.Stepping.{KeepsImage, StepsDraw}
use Rattle.tiff_encode.proofs.Image.Fits.{both}
use Rattle.tiff_encode.proofs.Image.Steps.{asked}
use Rattle.tiff_encode.proofs.Moving.{grows_on}
use Rattle.tiff_encode.proofs.Stepped.{all_none, all_next}

-- if all steps pass `are_apart`, so do the steps before the last one, and the last passes
-- `is_apart`
apart_more : (old new : FileAndModel) (s t : Drawn) (steps : List ImageStep) (step : ImageStep)
    (rs : List (Result StepReply TiffError)) (r : Result StepReply TiffError)
    → AllStepped ImageStepped old s steps rs new t
    → are_apart (steps ++ step ∷ []) (rs ++ r ∷ []) ≡ true
    → (are_apart steps rs ≡ true) × (is_apart step r ≡ true)
apart_more old new s t [] step [] r h a = (refl, (both (is_apart step r) true a).0)
apart_more old new s t [] step (x ∷ rs) r h a = absurd h
apart_more old new s t (x ∷ steps) step [] r h a = absurd h
apart_more old new s t (x ∷ steps) step (y ∷ rs) r h a =
    let one = both (is_apart x y) (are_apart (steps ++ step ∷ []) (rs ++ r ∷ [])) a in
    let more = apart_more h.0 new h.1.0 t steps step rs r h.1.1.1 one.1 in
    (ap (λ b. b && are_apart steps rs) one.0 ∙ more.0, more.1)

-- no step is done
pub none_drawn : (i : OpenImage) (file : FileState) → StepsDraw i [] [] file file i
none_drawn i file =
    asked i (λ s before t after. AllStepped ImageStepped s before [] [] t after) true file
    (λ s before. all_none ImageStepped s (record { image = i; samples = before }))

-- one more step, behind the steps that are done
pub next_drawn : (i j k : OpenImage) (old mid new : FileState) (steps : List ImageStep)
    (step : ImageStep) (n : ℕ)
    (rs : List (Result StepReply TiffError)) (r : Result StepReply TiffError) → mid.kind ≡ old.kind
    → n < length steps → step ≡ get_or steps n step
    → StepsDraw i (take n steps) rs old mid j → KeepsImage j step r mid new k
    → StepsDraw i (take (n + 1) steps) (rs ++ r ∷ []) old new k
next_drawn i j k old mid new steps step n rs r same l v f g known s before q p =
    let x = f known s before q p in
    let m : FileAndModel = x.0 in
    let y = g known m x.1.0 x.1.1.0 x.1.1.1.1.0 in
    let t : FileAndModel = y.0 in
    let first : Drawn = record { image = i; samples = before } in
    let next : Drawn = record { image = j; samples = x.1.0 } in
    let last : Drawn = record { image = k; samples = y.1.0 } in
    let done : AllStepped ImageStepped s first (take n steps) rs m next = x.1.1.1.0 in
    let all : AllStepped ImageStepped s first (take (n + 1) steps) (rs ++ r ∷ []) t last =
    all_next ImageStepped s m t first next last steps step n rs r l v done y.1.1.1.0 in
    let more : take (n + 1) steps ≡ take n steps ++ step ∷ [] =
    take_more steps n step l ∙ ap (λ x. take n steps ++ x ∷ []) (sym v) in
    let kind : m.file.kind ≡ s.file.kind =
    ap (λ f. f.kind) x.1.1.0 ∙ same ∙ ap (λ f. f.kind) (sym q) in
    let held : are_apart (take (n + 1) steps) (rs ++ r ∷ []) ≡ true
    → RecordsImage s.file.kind s.model i before → RecordsImage s.file.kind t.model k y.1.0 =
    λ a h. (let parts = apart_more s m first next (take n steps) step rs r done (subst (λ xs. are_apart xs (rs ++ r ∷ []) ≡ true) more a) in
    let middle : RecordsImage m.file.kind m.model j x.1.0 =
    subst (λ kind. RecordsImage kind m.model j x.1.0) (sym kind) (x.1.1.1.1.1.1 parts.0 h) in
    subst (λ kind. RecordsImage kind t.model k y.1.0) kind (y.1.1.1.1.1.1 parts.1 middle)) in
    (t, (y.1.0, (y.1.1.0, (all, (y.1.1.1.1.0, (grows_on s.model m.model t.model x.1.1.1.1.1.0 y.1.1.1.1.1.0, held))))))
