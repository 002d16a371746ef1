-- One turn of a loop that reads values.
use Rattle.std.proofs.Common.{◌≡◌, ℕ, zero, suc, ◌+◌, ◌-◌, ◌*◌, ◌<◌, List, [], ◌∷◌, ◌++◌, take, drop, map, refl, ap, sym, ◌∙◌, arith, append_assoc}
use Rattle.std.specs.List.{range_with_len}
use Rattle.std.proofs.Math.Nat.{suc-mul}
use Rattle.std.proofs.lemmas.List.{map-append, drop-drop}
use Rattle.tiff_base.specs.SourceAndSink.{bytes_at}
use Rattle.tiff_ifd.specs.PlainValue.{PlainValue}
use Rattle.tiff_ifd.specs.View.{plain_value, plain_values}
use Rattle.tiff_ifd.specs.declared.value.Value.{Value}
use Rattle.tiff_ifd.specs.Item.{items}

read_behind : {A : Type 0} (f g : ℕ → A) (a n : ℕ) → ((i : ℕ) → f (i + 1) ≡ g i)
    → map f (range_with_len (a + 1) n) ≡ map g (range_with_len a n)
read_behind f g a zero h = refl
read_behind f g a (suc n) h = λ j. h a j ∷ read_behind f g (a + 1) n h j

behind_first : {A : Type 0} (read : List ℕ → A) (width : ℕ) (bs : List ℕ) (i : ℕ)
    → read (bytes_at bs (width * (i + 1)) width) ≡ read (bytes_at (drop width bs) (width * i) width)
behind_first read width bs i =
    let e : width * (i + 1) ≡ width + width * i = omega arith in
    ap (λ (m : ℕ). read (bytes_at bs m width)) e
    ∙ ap (λ xs. read (take width xs)) (sym (drop-drop (width * i) width bs))

-- the first value, and then the others
pub items-first : {A : Type 0} (read : List ℕ → A) (width n : ℕ) (bs : List ℕ)
    → items read width (suc n) bs ≡ read (take width bs) ∷ items read width n (drop width bs)
items-first {A} read width n bs =
    let z : width * 0 ≡ 0 = omega arith in
    let f : ℕ → A = λ i. read (bytes_at bs (width * i) width) in
    let g : ℕ → A = λ i. read (bytes_at (drop width bs) (width * i) width) in
    λ j. read (bytes_at bs (z j) width) ∷ read_behind f g 0 n (behind_first read width bs) j

items-step : {A : Type 0} (read : List ℕ → A) (width k : ℕ) (bs : List ℕ) → 0 < k
    → items read width k bs ≡ read (take width bs) ∷ items read width (k - 1) (drop width bs)
items-step read width zero bs h = absurd (omega arith)
items-step read width (suc k) bs h =
    let e : suc k - 1 ≡ k = omega arith in rw e (items-first read width k bs)

pub less_one : (k width : ℕ) → 0 < k → k * width ≡ (k - 1) * width + width
less_one zero width h = absurd (omega arith)
less_one (suc k) width h = let e : suc k - 1 ≡ k = omega arith in rw e (suc-mul k width)

pub read_one_more : (read : List ℕ → PlainValue) (width k : ℕ) (bs front back : List ℕ)
    (all after : List Value) (v : Value) (whole : List PlainValue)
    → whole ≡ plain_values all ++ items read width k bs → 0 < k → front ≡ take width bs
    → back ≡ drop width bs
    → plain_value v ≡ read front → after ≡ all ++ v ∷ []
    → whole ≡ plain_values after ++ items read width (k - 1) back
read_one_more read width k bs front back all after v whole ih h f b e p =
    cc (items-step read width k bs h, map-append plain_value all (v ∷ []), append_assoc (plain_values all) (plain_value v ∷ []) (items read width (k - 1) (drop width bs)))
