-- A search by halves.
use Rattle.std.proofs.Common.{◌≡◌, ℕ, zero, suc, ◌+◌, ◌-◌, ◌*◌, ◌/◌, ◌^◌, ◌<◌, ◌≤◌, List, [], ◌∷◌, length, get_or, sym, ap, ◌∙◌, arith, inl, inr}
use Rattle.std.proofs.Math.Nat.{mul-le-mul_right, pow-succ', pow-zero, mul_assoc}
use Rattle.std.proofs.Math.Pow.{pow_mono}
use Rattle.std.proofs.lemmas.Bool.{cases_lt}
use Rattle.std.proofs.lemmas.Cmp.{ranked}
use Rattle.std.proofs.lemmas.List.{length-map, get_or-map}
use Rattle.std.specs.declared.cmp.Ordering.TheVariants.{Less, Equal, Greater}
use Rattle.std.specs.List.{AllByRecursion}
use Rattle.std.specs.List.Sorted.{IsStrictlySortedBy}
use Rattle.std.specs.Map.{keys_of}
use Rattle.std.specs.Ordering.{nat_cmp}
use Rattle.tiff_base.specs.Field.{Field}
use Rattle.tiff_base.specs.Place.{IsAscending, IsPlaceOf, key_at}

-- ---- numbers that ascend

each_at : (P : ℕ → Type 0) (xs : List ℕ) (i : ℕ) → i < length xs → AllByRecursion P xs
    → P (get_or xs i 0)
each_at P [] i h all = absurd (omega arith)
each_at P (x ∷ xs) zero h all = all.0
each_at P (x ∷ xs) (suc i) h all = each_at P xs i (omega arith) all.1

pub ascends : (xs : List ℕ) → IsStrictlySortedBy nat_cmp xs → (i j : ℕ) → i < j → j < length xs
    → get_or xs i 0 < get_or xs j 0
unfolding IsStrictlySortedBy
ascends [] h i j l m = absurd (omega arith)
ascends (x ∷ xs) h i zero l m = absurd (omega arith)
ascends (x ∷ xs) h zero (suc j) l m =
    ranked x (get_or xs j 0) Less (sym (each_at (λ y. nat_cmp x y ≡ Less) xs j (omega arith) h.0))
ascends (x ∷ xs) h (suc i) (suc j) l m = ascends xs h.1 i j (omega arith) (omega arith)

pub numbers_ascend : (entries : List (ℕ × Field)) → IsAscending entries → (i j : ℕ) → i < j
    → j < length entries → key_at entries i < key_at entries j
numbers_ascend entries h i j l m =
    ascends (keys_of entries) h i j l (omega (arith, m, length-map entries (λ (e : ℕ × Field). e.0)))

-- ---- halves

-- what remains of a list after some halvings, each of which leaves at most half
halved : (size left spent whole : ℕ) → left ≤ size / 2 → size * 2 ^ spent ≤ whole
    → left * 2 ^ (spent + 1) ≤ whole
halved size left spent whole h l =
    let two : left * 2 ≤ size = omega (arith, h) in
    let e : left * 2 ^ (spent + 1) ≡ left * 2 * 2 ^ spent =
    ap (λ n. left * n) (ap (λ n. 2 ^ n) (omega arith) ∙ pow-succ' 2 spent)
    ∙ sym (mul_assoc left 2 (2 ^ spent)) in
    let m : left * 2 * 2 ^ spent ≤ size * 2 ^ spent = mul-le-mul_right (2 ^ spent) two in
    omega (arith, e, m, l)

-- while something remains, there were fewer halvings than the length of the list has binary digits
fewer : (size spent whole digits : ℕ) → 0 < size → size * 2 ^ spent ≤ whole → whole < 2 ^ digits
    → spent + 1 ≤ digits
fewer size spent whole digits some l d =
    elim (cases_lt spent digits) [
      | inl below ↦ omega (arith, below)
      | inr above ↦
          let p : 2 ^ digits ≤ 2 ^ spent = pow_mono above in
          let one : 1 * 2 ^ spent ≤ size * 2 ^ spent = mul-le-mul_right (2 ^ spent) some in
          absurd (omega (arith, p, one, l, d))
    ]

-- The search is between two places of the entries, and has compared a number of keys.
pub record Halves (number : ℕ) (entries : List (ℕ × Field)) (before now low high : ℕ) : Type 0 where
  pub order : low ≤ high
  pub within : high ≤ length entries
  pub smaller : (i : ℕ) → i < low → key_at entries i < number
  pub greater : (i : ℕ) → high ≤ i → i < length entries → number < key_at entries i
  pub spent : ℕ
  pub counted : now ≡ before + spent
  pub left : (high - low) * 2 ^ spent ≤ length entries
  pub few : (digits : ℕ) → length entries < 2 ^ digits → spent ≤ digits

pub begin : (number : ℕ) (entries : List (ℕ × Field)) (count : ℕ)
    → Halves number entries count count 0 (length entries)
begin number entries count = record {
  order = omega arith;
  within = omega arith;
  smaller = λ i l. absurd (omega arith);
  greater = λ i l m. absurd (omega arith);
  spent = 0;
  counted = omega arith;
  left = omega (arith, pow-zero 2);
  few = λ digits l. omega arith;
}

module _ (number : ℕ) (entries : List (ℕ × Field)) (sorted : IsAscending entries)
    (before now next low high : ℕ) (x : ℕ × Field)
    (h : Halves number entries before now low high) (some : low < high) (more : next ≡ now + 1) where
  abbrev middle : ℕ
  middle = low + (high - low) / 2

  abbrev key : ℕ
  key = (get_or entries middle x).0

  found : key ≡ key_at entries middle
  found =
      sym (get_or-map (λ (e : ℕ × Field). e.0) entries middle x 0 (omega (arith, h.within, some)))

  spent_less : (left : ℕ) → left ≤ (high - low) / 2 → left * 2 ^ (h.spent + 1) ≤ length entries
  spent_less left l = halved (high - low) left h.spent (length entries) l h.left

  few_more : (digits : ℕ) → length entries < 2 ^ digits → h.spent + 1 ≤ digits
  few_more digits d =
      fewer (high - low) h.spent (length entries) digits (omega (arith, some)) h.left d

  pub right : Less ≡ nat_cmp key number → Halves number entries before next (middle + 1) high
  right c =
      let less : key < number = ranked key number Less c in
      record {
        order = omega (arith, some);
        within = h.within;
        smaller = λ i l. elim (cases_lt i middle) [
          | inl below ↦ omega (arith, numbers_ascend entries sorted i middle below (omega (arith, h.within, some)), found, less)
          | inr above ↦ let e : i ≡ middle =
              omega (arith, l, above) in omega (arith, ap (key_at entries) e, found, less)
        ];
        greater = h.greater;
        spent = h.spent + 1;
        counted = omega (arith, more, h.counted);
        left = spent_less (high - (middle + 1)) (omega (arith, some));
        few = few_more;
      }

  pub left : Greater ≡ nat_cmp key number → Halves number entries before next low middle
  left c =
      let more_than : number < key = ranked key number Greater c in
      record {
        order = omega arith;
        within = omega (arith, some, h.within);
        smaller = h.smaller;
        greater = λ i l m. elim (cases_lt middle i) [
          | inl above ↦ omega (arith, numbers_ascend entries sorted middle i above m, found, more_than)
          | inr below ↦ let e : i ≡ middle =
              omega (arith, l, below) in omega (arith, ap (key_at entries) e, found, more_than)
        ];
        spent = h.spent + 1;
        counted = omega (arith, more, h.counted);
        left = spent_less (middle - low) (omega arith);
        few = few_more;
      }

  pub here : Equal ≡ nat_cmp key number → IsPlaceOf number entries middle
  here c =
      record { within = omega (arith, some, h.within); same = sym found ∙ ranked key number Equal c }
