-- Words that are numbers.
use Rattle.std.proofs.Common.{◌≡◌, ℕ, ◌<◌, ◌≤◌, ◌^◌, List, [], ◌∷◌, ◌++◌, ap, sym, ◌∙◌, arith, slice_index, None, Some, Bool, true, false, refl, nat_lt, length}
use Rattle.std.specs.Prelude.{◌&&◌, ◌≢◌, OkIff, Result, Ok, Err, codes, if◌then◌else◌}
use Rattle.std.specs.Result.{result_ok}
use Rattle.std.specs.Bool.{Decides}
use Rattle.std.specs.Char.{digit_value}
use Rattle.std.specs.List.{list_all, starts_with}
use Rattle.std.specs.Str.Parse.{AllDigits, IsNumeral, ParsesUnsigned, digits_value}
use Rattle.std.specs.Str.Pattern.{FindsTextPrefix, LacksTextAt, StripsPrefix}
use Rattle.std.proofs.lemmas.Bool.Decides.{Decides-and, Decides-ltb}
use Rattle.std.proofs.lemmas.Str.Pattern.{starts_text}
use lib.Dec.{eqb}
use Rattle.std.proofs.lemmas.Str.Parse.{without_leading_plus_none}
use Rattle.tiff_script.specs.Numbers.{are_digits, magnitude, number}

false_from : (b : Bool) → (b ≡ true → ⊥) → b ≡ false
false_from true h = absurd (h refl)
false_from false h = refl

-- The test of digits.
all_digits : (radix : ℕ) (ds : List ℕ)
    → Decides (list_all (λ c. nat_lt (digit_value c) radix) ds) (AllDigits radix ds)
all_digits radix [] = ((λ _. tt), (λ _. refl))
all_digits radix (c ∷ cs) =
    Decides-and _ _ (Decides-ltb (digit_value c) radix) (all_digits radix cs)

pub digits_decided : (radix : ℕ) (ds : List ℕ) → Decides (are_digits radix ds) (IsNumeral radix ds)
digits_decided radix ds = Decides-and _ _ (Decides-ltb 0 (length ds)) (all_digits radix ds)

fits_decided : (radix : ℕ) (ds : List ℕ)
    → Decides (are_digits radix ds && nat_lt (digits_value radix ds) (2 ^ 64)) (IsNumeral radix ds
    × (digits_value radix ds < 2 ^ 64))
fits_decided radix ds =
    Decides-and _ _ (digits_decided radix ds) (Decides-ltb (digits_value radix ds) (2 ^ 64))

-- What is parsed is the number.
parsed : {E : Type 0} (P : Type 0) (test : Bool) (n : ℕ) (r : Result ℕ E) → Decides test P
    → OkIff r P n → result_ok r ≡ (if test then Some n else None)
parsed P true n (Ok m) d h = ap (λ (k : ℕ). Some k) h.1
parsed P true n (Err e) d h = absurd (h (d.0 refl))
parsed P false n (Ok m) d h = absurd (cc (d.1 h.0))
parsed P false n (Err e) d h = refl

pub number_parsed : {E : Type 0} (radix : ℕ) (ds : List ℕ) (r : Result ℕ E) → slice_index ds 0 ≢ 43
    → ParsesUnsigned 64 radix ds r → result_ok r ≡ number radix ds
number_parsed radix ds r plus h =
    parsed (IsNumeral radix ds × (digits_value radix ds
    < 2 ^ 64)) _ (digits_value radix ds) r (fits_decided radix ds)
    (rw (without_leading_plus_none ds plus) at h)

none_behind : (b d : Bool) (n : ℕ) → b ≡ false → (if b && d then Some n else None) ≡ None
none_behind true d n e = absurd (cc (e))
none_behind false d n e = refl

no_digits : (radix c : ℕ) (cs : List ℕ) → radix ≤ 36 → c ≡ 43 → are_digits radix (c ∷ cs) ≡ false
no_digits radix c cs small e =
    false_from (are_digits radix (c ∷ cs)) (λ t. let d : IsNumeral radix (c ∷ cs) =
    (digits_decided radix (c ∷ cs)).0 t in omega (arith, (rw e at d).1.0))

-- A word with a plus in front is no number.
pub no_plus : (radix : ℕ) (ds : List ℕ) → radix ≤ 36 → slice_index ds 0 ≡ 43
    → number radix ds ≡ None
no_plus radix [] small e = absurd (omega (arith, e))
no_plus radix (c ∷ cs) small e =
    none_behind (are_digits radix (c ∷ cs)) _ _ (no_digits radix c cs small e)

-- A word is the prefix that is stripped and what is left.
pub stripped : (prefix word rest : List ℕ) → StripsPrefix (FindsTextPrefix prefix) word rest
    → word ≡ prefix ++ rest
stripped prefix word rest h = h.1.1 ∙ ap (λ (w : List ℕ). prefix ++ w) (sym h.2)

-- A word that lacks a prefix doesn't start with it.
pub lacking : (prefix word : List ℕ) → LacksTextAt prefix word 0
    → starts_with eqb word prefix ≡ false
lacking prefix word h = sym (starts_text false prefix word h)

pub hexadecimal : (word digits : List ℕ) → StripsPrefix (FindsTextPrefix (codes "0x")) word digits → number 16 digits ≡ magnitude word
unfolding magnitude
hexadecimal word digits h = rw (stripped (codes "0x") word digits h) refl

pub decimal : (word : List ℕ) → LacksTextAt (codes "0x") word 0 → number 10 word ≡ magnitude word
unfolding magnitude
decimal word h = rw (lacking (codes "0x") word h) refl
