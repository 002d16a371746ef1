-- Samples that are added several times.
use Rattle.std.proofs.Common.{◌≡◌, ℕ, ◌≤◌, ◌+◌, List, [], ◌∷◌, ◌++◌, length, map, replicate, ap, sym, ◌∙◌, refl, arith, append_assoc, append-nil, Option, None, Some, suc, zero}
use Rattle.std.specs.Prelude.{◌≢◌, ◌-◌, ◌==◌, Bool, true, false, MatchOption, bit_xor, if◌then◌else◌, option_map}
use Rattle.std.specs.List.{concat, range_with_len}
use Rattle.std.proofs.lemmas.Bool.Decides.{nat_tests}
use Rattle.std.proofs.lemmas.List.{replicate_more}
use Rattle.std.proofs.lemmas.List.Folds.{concat-append}
use Rattle.std.proofs.lemmas.List.FromFn.{length-map-range_with_len, map-range_with_len_more}
use denote.Ref.{Bor}
use Rattle.tiff_script.specs.declared.samples.SampleRange.{SampleRange}
use Rattle.tiff_script.specs.Samples.{ascending, behind_point}
use Rattle.tiff_script.specs.Stands.{point}

-- How many samples a range has.
pub length_ascending : (r : SampleRange) → r.first ≤ r.last
    → length (ascending r) ≡ r.last - r.first + 1
length_ascending r h = length-map-range_with_len _ r.first (r.last + 1 - r.first) ∙ omega (arith, h)

-- One sample of a range more.
pub one_ascends : (front items : List ℕ) (r : SampleRange) (n : ℕ) → r.first ≤ n
    → items ≡ front ++ map (λ m. bit_xor m r.sign) (range_with_len r.first (n - r.first))
    → items ++ bit_xor n r.sign ∷ [] ≡ front
    ++ map (λ m. bit_xor m r.sign) (range_with_len r.first (n + 1 - r.first))
one_ascends front items r n h e =
    let count : n + 1 - r.first ≡ n - r.first + 1 = omega (arith, h) in
    let place : r.first + (n - r.first) ≡ n = omega (arith, h) in
    ap (λ xs. xs ++ bit_xor n r.sign ∷ []) e ∙ append_assoc front _ (bit_xor n r.sign ∷ [])
    ∙ ap (λ xs. front ++ xs) (sym (map-range_with_len_more (λ m. bit_xor m r.sign) r.first (n - r.first) n place))
    ∙ ap (λ k. front ++ map (λ m. bit_xor m r.sign) (range_with_len r.first k)) (sym count)

-- The last sample of a range.
pub all_ascend : (front items : List ℕ) (r : SampleRange) (n : ℕ) → r.first ≤ n
    → items ≡ front ++ map (λ m. bit_xor m r.sign) (range_with_len r.first (n - r.first))
    → n ≡ r.last → items ++ bit_xor n r.sign ∷ [] ≡ front ++ ascending r
all_ascend front items r n h e last =
    one_ascends front items r n h e
    ∙ ap (λ k. front ++ map (λ m. bit_xor m r.sign) (range_with_len r.first (k
    + 1 - r.first))) last

-- A run once more.
pub run_more : (front run : List ℕ) (n : ℕ)
    → (front ++ concat (replicate n run)) ++ run ≡ front ++ concat (replicate (n + 1) run)
run_more front run n =
    append_assoc front (concat (replicate n run)) run
    ∙ ap (λ xs. front ++ xs) (sym (ap concat (sym (replicate_more n run))
    ∙ concat-append (replicate n run) (run ∷ []) ∙ ap (λ xs. concat (replicate n run) ++ xs) (append-nil run)))

-- A run of one sample.
pub run_of_one : (n s : ℕ) → concat (replicate n (s ∷ [])) ≡ replicate n s
run_of_one zero s = refl
run_of_one (suc n) s = ap (λ xs. s ∷ xs) (run_of_one n s)

-- What is left behind a point.
pub point_stripped : (bs : List ℕ) (r : Option (Bor (List ℕ)))
    → MatchOption r ((rest : List ℕ) → bs ≢ point ∷ rest) (λ x. bs ≡ point ∷ x.now)
    → option_map (λ x. x.now) r ≡ behind_point bs
point_stripped bs (Some x) h = rw h refl
point_stripped [] None h = refl
point_stripped (c ∷ rest) None h = sym (other (c == point) refl)
  where
    other : (b : Bool) → (c == point) ≡ b → (if b then Some rest else None) ≡ None
    other false e = refl
    other true e =
        let same : c ≡ point =
        grind (arith, nat_tests, e) in absurd (h rest (ap (λ x. x ∷ rest) same))
