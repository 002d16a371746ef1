-- The first status of a list that is not 0.
use Rattle.std.proofs.Common.{◌≡◌, ℕ, zero, suc, ◌+◌, ◌≤◌, List, [], ◌∷◌, ◌++◌, length, map, drop, None, Some, true, false, Result, ap, sym, ◌∙◌, refl, ⊎_elim, arith}
use Rattle.std.proofs.lemmas.Bool.{cases_Bool, eqb-true}
use Rattle.std.specs.List.{slice_get}
use Rattle.std.specs.Prelude.{◌==◌, if◌then◌else◌}
use Rattle.tiff_base.specs.declared.error.TiffError.{TiffError}
use Rattle.tiff_encode.specs.declared.encoder.script.JobReply.{JobReply}
use Rattle.tiff_ffi.specs.Jobs.{first_refused, first_status, job_status}
use Rattle.tiff_ffi.specs.Status.{status}

-- ---- a list from an index on

drop_at : {A : Type 0} (xs : List A) (i : ℕ) (x : A) → slice_get xs i ≡ Some x
    → drop i xs ≡ x ∷ drop (i + 1) xs
drop_at [] i x h = absurd (cc)
drop_at (a ∷ xs) zero x h = (let e : a ≡ x = cc in ap (λ y. y ∷ xs) e)
drop_at (a ∷ xs) (suc i) x h =
    (let e : suc (i + 1) ≡ suc i + 1 = omega arith in drop_at xs i x h ∙ ap (λ (k : ℕ). x ∷ drop k (a ∷ xs)) e)

none_left : {A : Type 0} (xs : List A) (i : ℕ) → length xs ≤ i → drop i xs ≡ []
none_left [] zero h = refl
none_left [] (suc i) h = refl
none_left (a ∷ xs) zero h = absurd (omega (arith, h))
none_left (a ∷ xs) (suc i) h = none_left xs i (omega (arith, h))

-- ---- a status that is 0, and one that isn't

passed : {A : Type 0} (n : ℕ) (rest here : A) → n ≡ 0 → (if n == 0 then rest else here) ≡ rest
passed n rest here h = ap (λ (m : ℕ). if m == 0 then rest else here) h

kept : {A : Type 0} (n : ℕ) (rest here : A) → (n ≡ 0 → ⊥) → (if n == 0 then rest else here) ≡ here
kept n rest here h =
    ⊎_elim
    (λ (t : (n == 0) ≡ true). absurd (h (eqb-true n 0 t)))
    (λ (f : (n == 0) ≡ false). rw f refl)
    (cases_Bool (n == 0))

-- ---- steps

module _ {X : Type 0} (steps : List (Result X TiffError)) (i : ℕ) (step : Result X TiffError)
    (n : ℕ) (is : slice_get steps i ≡ Some step) (told : n ≡ status step)
    (left : first_status (map status steps) ≡ first_status (map status (drop i steps))) where
  here : first_status (map status steps)
      ≡ (if n == 0 then first_status (map status (drop (i + 1) steps)) else n)
  here =
      left ∙ ap (λ (xs : List (Result X TiffError)). first_status (map status xs)) (drop_at steps i step is)
      ∙ ap (λ k. if k == 0 then first_status (map status (drop (i + 1) steps)) else k) (sym told)

  pub step_passed : n ≡ 0 → first_status (map status steps)
      ≡ first_status (map status (drop (i + 1) steps))
  step_passed h = here ∙ passed n (first_status (map status (drop (i + 1) steps))) n h

  pub step_refused : (n ≡ 0 → ⊥) → n ≡ first_status (map status steps)
  step_refused h = sym (here ∙ kept n (first_status (map status (drop (i + 1) steps))) n h)

pub steps_passed : {X : Type 0} (steps : List (Result X TiffError)) (i : ℕ) → length steps ≤ i
    → first_status (map status steps) ≡ first_status (map status (drop i steps))
    → 0 ≡ first_status (map status steps)
steps_passed {X} steps i h left =
    sym (left ∙ ap (λ (xs : List (Result X TiffError)). first_status (map status xs)) (none_left steps i h))

-- One more status behind the others.
pub first_behind : (ns : List ℕ) (m : ℕ)
    → first_status (ns ++ m ∷ []) ≡ (if first_status ns == 0 then m else first_status ns)
first_behind [] m =
    ⊎_elim
    (λ (t : (m == 0) ≡ true). let e : m ≡ 0 = eqb-true m 0 t in rw t (sym e))
    (λ (f : (m == 0) ≡ false). rw f refl)
    (cases_Bool (m == 0))
first_behind (n ∷ ns) m =
    ⊎_elim
    (λ (t : (n == 0) ≡ true). rw t (first_behind ns m))
    (λ (f : (n == 0) ≡ false). rw (f, f) refl)
    (cases_Bool (n == 0))

-- ---- jobs

module _ (replies : List JobReply) (i : ℕ) (reply : JobReply) (n : ℕ)
    (is : slice_get replies i ≡ Some reply) (told : n ≡ job_status reply)
    (left : first_refused 1 replies ≡ first_refused (i + 1) (drop i replies)) where
  there : first_refused 1 replies
      ≡ (if n == 0 then first_refused (i + 1 + 1) (drop (i + 1) replies) else Some (i + 1, n))
  there =
      left ∙ ap (λ (xs : List JobReply). first_refused (i + 1) xs) (drop_at replies i reply is)
      ∙ ap (λ k. if k == 0 then
      first_refused (i + 1 + 1) (drop (i + 1) replies) else Some (i + 1, k)) (sym told)

  pub job_passed : n ≡ 0 → first_refused 1 replies
      ≡ first_refused (i + 1 + 1) (drop (i + 1) replies)
  job_passed h =
      there ∙ passed n (first_refused (i + 1 + 1) (drop (i + 1) replies)) (Some (i + 1, n)) h

  pub job_refused : (n ≡ 0 → ⊥) → Some (i + 1, n) ≡ first_refused 1 replies
  job_refused h =
      sym (there ∙ kept n (first_refused (i + 1 + 1) (drop (i + 1) replies)) (Some (i + 1, n)) h)

pub jobs_passed : (replies : List JobReply) (i : ℕ) → length replies ≤ i
    → first_refused 1 replies ≡ first_refused (i + 1) (drop i replies)
    → None ≡ first_refused 1 replies
jobs_passed replies i h left =
    sym (left ∙ ap (λ (xs : List JobReply). first_refused (i + 1) xs) (none_left replies i h))
