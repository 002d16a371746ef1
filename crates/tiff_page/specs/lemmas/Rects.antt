-- The rows of a rectangle of a buffer are written one after another.
use Rattle.std.proofs.Common.{◌≡◌, ℕ, ◌+◌, ◌-◌, ◌*◌, ◌/◌, ◌%◌, ◌<◌, ◌≤◌, ◌⊎◌, List, ◌++◌, take, drop, get_or, length, refl, ap, sym, ◌∙◌, inl, inr, ⊎_elim, arith, append_assoc, zero, suc, [], subst}
use Rattle.std.proofs.lemmas.Bool.{cases_lt}
use Rattle.std.proofs.lemmas.List.{length-take-le, length-append, length-drop, get_or-take, get_or-drop, get_or_append_left, get_or-append_right, drop-drop, append-nil, length-replicate, replicate-append-replicate}
use Rattle.std.proofs.lemmas.Nat.{div-mul-add, mod-mul-add, div-add-mod', mod_below}
use Rattle.std.proofs.Math.Nat.{mul-le-mul_right}
use borrow.Rule.Slice.PartMut.{put_mid}
use Rattle.tiff_page.specs.BufferPositions.{Writes, IsIn, in_rect, filled_to}
use Rattle.tiff_page.specs.PositionLaws as law
use Rattle.std.specs.Prelude.{replicate}
use Rattle.std.proofs.Math.Seq.{take-append_seam}
use Rattle.tiff_page.specs.NumberBytes.{IsPut}

-- new is old with these bytes at a position
abbrev pub Holds : List ℕ → ℕ → List ℕ → List ℕ → Type 0
Holds old at bytes new = new ≡ take at old ++ (bytes ++ drop (at + length bytes) old)

-- the buffer after a write to a part of it, as a goal has it
pub holds_put_mid : (old part : List ℕ) (a n : ℕ) → length part ≡ n
    → Holds old a part (put_mid a (a + n - a) old part)
holds_put_mid old part a n l =
    let e : a + n - a ≡ n = omega arith in
    rw (e, l, drop-drop) refl

pub length_held : (old bytes new : List ℕ) (at : ℕ) → at + length bytes ≤ length old
    → Holds old at bytes new → length new ≡ length old
length_held old bytes new at f h =
    rw (h, length-append, length-append, length-drop, length-take-le at old (omega (arith, f)))
    (omega (arith, f))

-- which positions change
pub copied : (old bytes new : List ℕ) (at : ℕ) → at + length bytes ≤ length old
    → Holds old at bytes new
    → Writes (λ i. (at ≤ i) × (i < at + length bytes)) (λ i. get_or bytes (i - at) 0) old new
copied old bytes new at f h = (
  length_held old bytes new at f h,
  λ i l.
      let t : length (take at old) ≡ at = length-take-le at old (omega arith) in
      ⊎_elim
      (λ a. inr (λ p. Prim.absurd (omega arith), rw (h, get_or_append_left (take at old) (bytes ++ drop (at + length bytes) old) 0 i (omega arith), get_or-take at old i 0 a) refl))
      (λ a.
      let r : get_or new i 0 ≡ get_or (bytes ++ drop (at + length bytes) old) (i - at) 0 =
      rw h (get_or-append_right (take at old) (bytes
      ++ drop (at + length bytes) old) at i 0 t a) in
      ⊎_elim
      (λ b. inl ((a, b), r ∙ get_or_append_left bytes (drop (at + length bytes) old) 0 (i - at) (omega arith)))
      (λ b.
      let e : at + length bytes + (i - at - length bytes) ≡ i = omega arith in
      inr (λ p. Prim.absurd (omega arith), r ∙ (get_or-append_right bytes (drop (at + length bytes) old) (length bytes) (i - at) 0 refl (omega arith) ∙ (get_or-drop (at + length bytes) old (i - at - length bytes) 0 ∙ ap (λ (k : ℕ). get_or old k 0) e))))
      (cases_lt i (at + length bytes)))
      (cases_lt i at),
)

-- one write after another
pub writes_more : (P Q R : ℕ → Type 0) (value : ℕ → ℕ) (old mid new : List ℕ)
    → ((i : ℕ) → P i → R i) → ((i : ℕ) → Q i → R i)
    → ((i : ℕ) → R i → P i ⊎ Q i) → Writes P value old mid → Writes Q value mid new
    → Writes R value old new
writes_more P Q R value old mid new f g k a b = (
  b.0 ∙ a.0,
  λ i l.
      ⊎_elim
      (λ q. inl (g i q.0, q.1))
      (λ q. ⊎_elim
      (λ p. inl (f i p.0, q.1 ∙ p.1))
      (λ p. inr (λ r. ⊎_elim p.0 q.0 (k i r), q.1 ∙ p.1))
      (a.1 i l))
      (b.1 i (omega (arith, a.0, l))),
)

-- writes of equal values
pub writes_as : (P : ℕ → Type 0) (f g : ℕ → ℕ) (old new : List ℕ) → ((i : ℕ) → P i → f i ≡ g i)
    → Writes P f old new → Writes P g old new
writes_as P f g old new e w =
    (w.0, λ i l. ⊎_elim (λ p. inl (p.0, p.1 ∙ e i p.0)) (λ p. inr p) (w.1 i l))

-- writes to the same positions
pub writes_same : (P Q : ℕ → Type 0) (value : ℕ → ℕ) (old new : List ℕ) → ((i : ℕ) → P i → Q i)
    → ((i : ℕ) → Q i → P i)
    → Writes P value old new → Writes Q value old new
writes_same P Q value old new f g w =
    (w.0, λ i l. ⊎_elim (λ p. inl (f i p.0, p.1)) (λ p. inr (λ q. p.0 (g i q), p.1)) (w.1 i l))

-- nothing is written
pub writes_none : (P : ℕ → Type 0) (value : ℕ → ℕ) (old : List ℕ) → ((i : ℕ) → P i → ⊥)
    → Writes P value old old
writes_none P value old n = (refl, λ i l. inr (n i, refl))

-- a row lies in the buffer
pub row_room : (stride top rows r left len size : ℕ) → r < rows → left + len ≤ stride
    → (top + rows) * stride ≤ size → (top + r) * stride + left + len ≤ size
row_room stride top rows r left len size a b c =
    let d : (top + r + 1) * stride ≤ (top + rows) * stride =
    mul-le-mul_right stride (omega (arith, a)) in
    let e : (top + r + 1) * stride ≡ (top + r) * stride + stride = omega arith in
    omega (arith, b, c, d, e)

-- where a position of that row is
pub in_row : (stride top r left len at i : ℕ) → left + len ≤ stride → at ≡ (top + r) * stride + left
    → at ≤ i → i < at + len
    → (i / stride ≡ top + r) × (i % stride ≡ left + (i - at))
in_row stride top r left len at i b e l h =
    let d : i ≡ (top + r) * stride + (left + (i - at)) = omega (arith, e, l) in
    let s : left + (i - at) < stride = omega (arith, b, e, l, h) in
    (ap (λ (m : ℕ). m / stride) d ∙ div-mul-add (top + r) stride (left + (i - at)) s, ap (λ (m : ℕ). m % stride) d ∙ mod-mul-add (top + r) stride (left + (i - at)) s)

pub of_row : (stride top r left len at i : ℕ) → at ≡ (top + r) * stride + left
    → i / stride ≡ top + r → left ≤ i % stride → i % stride < left + len
    → (at ≤ i) × (i < at + len)
of_row stride top r left len at i e q l h =
    let d : i / stride * stride + i % stride ≡ i = div-add-mod' i stride in
    let f : i / stride * stride ≡ (top + r) * stride = ap (λ z. z * stride) q in
    (omega (arith, e, l, d, f), omega (arith, e, h, d, f))

-- one more row of a rectangle is put into the buffer
pub row_put_there : (value : ℕ → ℕ → ℕ) (stride top r left len at : ℕ) (bytes old mid new : List ℕ)
    → left + len ≤ stride → at ≡ (top + r) * stride + left
    → length bytes ≡ len → ((k : ℕ) → k < len → get_or bytes k 0 ≡ value r k)
    → Writes (IsIn stride top r left len) (in_rect value stride top left) old mid
    → Writes (λ i. (at ≤ i) × (i < at + length bytes)) (λ i. get_or bytes (i - at) 0) mid new
    → Writes (IsIn stride top (r + 1) left len) (in_rect value stride top left) old new
row_put_there value stride top r left len at bytes old mid new b e n v w h =
    let Q : ℕ → Type 0 = λ i. (at ≤ i) × (i < at + length bytes) in
    let to : (i : ℕ) → Q i → (i / stride ≡ top + r) × (i % stride ≡ left + (i - at)) =
    λ i q. in_row stride top r left len at i b e q.0 (omega (arith, q.1, n)) in
    writes_more (IsIn stride top r left len) Q (IsIn stride top (r
    + 1) left len) (in_rect value stride top left) old mid new
    (λ i p. record { below = p.below; above = omega (arith, p.above); right = p.right; within = p.within })
    (λ i q.
    let t = to i q in
    record { below = omega (arith, t.0); above = omega (arith, t.0); right = omega (arith, t.1); within = omega (arith, t.1, q.0, q.1, n) })
    (λ i p. ⊎_elim
    (λ (l : i / stride < top + r). inl (record { below = p.below; above = l; right = p.right; within = p.within }))
    (λ (l : top + r ≤ i / stride).
    let q : i / stride ≡ top + r = omega (arith, l, p.above) in
    let s = of_row stride top r left len at i e q p.right p.within in
    inr (s.0, omega (arith, s.1, n)))
    (cases_lt (i / stride) (top + r)))
    w
    (writes_as Q (λ i. get_or bytes (i - at) 0) (in_rect value stride top left) mid new
    (λ i q.
    let t = to i q in
    let y : i / stride - top ≡ r = omega (arith, t.0) in
    let x : i % stride - left ≡ i - at = omega (arith, t.1) in
    v (i - at) (omega (arith, q.0, q.1, n)) ∙ sym (ap (λ z. value z (i % stride - left)) y ∙ ap (λ z. value r z) x))
    h)

-- no row is written yet
pub no_row : (value : ℕ → ℕ → ℕ) (stride top left len : ℕ) (old : List ℕ)
    → Writes (IsIn stride top 0 left len) (in_rect value stride top left) old old
no_row value stride top left len old =
    writes_none (IsIn stride top 0 left len) (in_rect value stride top left) old
    (λ i p. Prim.absurd (omega (arith, p.below, p.above)))

pub row_put : law.RowWritten
row_put value stride top r left len at bytes old mid b e n v f w =
    let new : List ℕ = put_mid at (at + len - at) mid bytes in
    row_put_there value stride top r left len at bytes old mid new b e n v w
    (copied mid bytes new at (omega (arith, n, f)) (holds_put_mid mid bytes at len n))

-- ---- a list that grows is a buffer, if zeros follow it up to its last length

pub zero_in : (n i : ℕ) → get_or {A = ℕ} (replicate n 0) i 0 ≡ 0
zero_in zero i = refl
zero_in (suc n) zero = refl
zero_in (suc n) (suc i) = zero_in n i

pub filled_length : (total : ℕ) (bytes : List ℕ)
    → length (filled_to total bytes) ≡ length bytes + (total - length bytes)
filled_length total bytes =
    length-append bytes (replicate (total - length bytes) 0)
    ∙ ap (λ (k : ℕ). length bytes + k) (length-replicate {A = ℕ} (total - length bytes) 0)

-- a list that is long enough already
pub filled_full : (total : ℕ) (bytes : List ℕ) → total ≤ length bytes
    → filled_to total bytes ≡ bytes
filled_full total bytes l =
    let none : total - length bytes ≡ 0 = omega (arith, l) in
    ap (λ (n : ℕ). bytes ++ replicate n 0) none ∙ append-nil bytes

-- a list that is filled up twice
pub filled_again : (total m : ℕ) (bytes : List ℕ) → m ≤ total
    → filled_to total (filled_to m bytes) ≡ filled_to total bytes
filled_again total m bytes l =
    let rest : m - length bytes + (total - length (filled_to m bytes)) ≡ total - length bytes =
    omega (arith, filled_length m bytes, l) in
    append_assoc bytes (replicate (m - length bytes) 0) (replicate (total - length (filled_to m bytes)) 0)
    ∙ ap (λ (xs : List ℕ). bytes ++ xs) (replicate-append-replicate (m - length bytes) (total - length (filled_to m bytes)) 0 ∙ ap (λ (k : ℕ). replicate k 0) rest)

-- writing before zeros is writing in the whole list
pub writes_filled : (P : ℕ → Type 0) (value : ℕ → ℕ) (total : ℕ) (old new : List ℕ)
    → ((i : ℕ) → P i → i < length old)
    → Writes P value old new → Writes P value (filled_to total old) (filled_to total new)
writes_filled P value total old new within w =
    let was : List ℕ = replicate (total - length old) 0 in
    let now : List ℕ = replicate (total - length new) 0 in (
      filled_length total new ∙ (λ t. w.0 t + (total - w.0 t)) ∙ sym (filled_length total old),
      λ i _.
          ⊎_elim
          (λ (b : i < length old).
          let here : get_or (filled_to total new) i 0 ≡ get_or new i 0 =
          get_or_append_left new now 0 i (omega (arith, b, w.0)) in
          ⊎_elim
          (λ q. inl (q.0, here ∙ q.1))
          (λ q. inr (q.0, here ∙ q.1 ∙ sym (get_or_append_left old was 0 i b)))
          (w.1 i b))
          (λ (b : length old ≤ i).
          inr (
            λ p. Prim.absurd (let h = within i p in omega (arith, h, b)),
            get_or-append_right new now (length new) i 0 refl (omega (arith, b, w.0))
                ∙ zero_in (total - length new) (i - length new)
                ∙ sym (get_or-append_right old was (length old) i 0 refl b
                ∙ zero_in (total - length old) (i - length old)),
          ))
          (cases_lt i (length old)),
    )

-- a row that is put into a list that grew for it is put into the whole list
pub put_filled : (total m at : ℕ) (row old new : List ℕ) → m ≤ total → at + length row ≤ m
    → IsPut at row (filled_to m old) new → IsPut at row (filled_to total old) (filled_to total new)
put_filled total m at row old new l fits put =
    subst (λ (xs : List ℕ). IsPut at row xs (filled_to total new)) (filled_again total m old l)
    (writes_filled (λ i. (at ≤ i) × (i < at + length row)) (λ i. get_or row (i - at) 0) total (filled_to m old) new (λ i p. omega (arith, p.1, fits, filled_length m old)) put)

-- a position of a rectangle is above its end
pub in_rows : (stride top rows left len i : ℕ) → 0 < stride → IsIn stride top rows left len i
    → i < (top + rows) * stride
in_rows stride top rows left len i s p =
    let x : (i / stride + 1) * stride ≤ (top + rows) * stride =
    mul-le-mul_right stride (omega (arith, p.above)) in
    omega (arith, div-add-mod' i stride, mod_below i stride s, x)

-- rows that are written into a list that grew for them are written into the whole list
pub rows_filled : (stride top rows left len end m : ℕ) (value : ℕ → ℕ) (old mid new : List ℕ)
    → 0 < stride → (top + rows) * stride ≤ end
    → mid ≡ filled_to end old → Writes (IsIn stride top rows left len) value mid new
    → end ≤ m → Writes (IsIn stride top rows left len) value (filled_to m old) (filled_to m new)
rows_filled stride top rows left len end m value old mid new s l grew w more =
    subst (λ (xs : List ℕ). Writes (IsIn stride top rows left len) value xs (filled_to m new))
    (ap (filled_to m) grew ∙ filled_again m end old more)
    (writes_filled (IsIn stride top rows left len) value m mid new (λ i p. let h =
    in_rows stride top rows left len i s p in omega (arith, h, l, ap (λ (xs : List ℕ). length xs) grew ∙ filled_length end old)) w)

-- nothing, filled up with zeros
pub none_filled : (total : ℕ) (bytes : List ℕ) → bytes ≡ []
    → filled_to total bytes ≡ replicate total 0
none_filled total bytes e =
    let all : total - 0 ≡ total =
    omega arith in ap (filled_to total) e ∙ ap (λ (k : ℕ). replicate k 0) all

-- a list whose elements were all written
pub all_written : {X : Type 0} (xs ys : List X) (n : ℕ) → length xs ≡ n
    → xs ≡ take n (xs ++ drop (length xs) ys)
all_written xs ys n e =
    sym (ap (λ m. take m (xs ++ drop (length xs) ys)) (sym e)
    ∙ take-append_seam xs (drop (length xs) ys))
