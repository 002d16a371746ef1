-- Parts of lists of bytes after a write to a part of them.
use Rattle.std.proofs.Common.{◌≡◌, ℕ, ◌+◌, ◌-◌, ◌<◌, ◌≤◌, ◌⊎◌, List, length, min, take, drop, get_or, refl, ap, sym, ◌∙◌, inl, inr, arith, ⊎_elim}
use Rattle.std.proofs.lemmas.List.{drop-drop, ext_get_or, get_or-take, get_or-drop, length-take-le, length-drop, length-take}
use Rattle.tiff_base.specs.SourceAndSink.{bytes_at, put}
use Rattle.tiff_page.specs.lemmas.Rects.{copied, length_held}

-- the bytes at an offset of what is left from another offset
pub at_drop : (xs : List ℕ) (off k n : ℕ) → bytes_at (drop off xs) k n ≡ bytes_at xs (off + k) n
at_drop xs off k n = ap (take n) (drop-drop k off xs)

pub get_at : (xs : List ℕ) (k n j : ℕ) → j < n → get_or (bytes_at xs k n) j 0 ≡ get_or xs (k + j) 0
get_at xs k n j h = get_or-take n (drop k xs) j 0 h ∙ get_or-drop k xs j 0

-- parts of lists of one length are the same if each of their bytes is
pub same_part : (xs ys : List ℕ) (k n : ℕ) → length xs ≡ length ys
    → ((j : ℕ) → k ≤ j → j < k + n → j < length ys → get_or xs j 0 ≡ get_or ys j 0)
    → bytes_at xs k n ≡ bytes_at ys k n
same_part xs ys k n e h =
    let l : length (drop k xs) ≡ length (drop k ys) =
    length-drop k xs ∙ ap (λ (m : ℕ). m - k) e ∙ sym (length-drop k ys) in
    let m : length (bytes_at xs k n) ≡ length (bytes_at ys k n) =
    length-take n (drop k xs) ∙ ap (λ (z : ℕ). min n z) l ∙ sym (length-take n (drop k ys)) in
    ext_get_or 0 (bytes_at xs k n) (bytes_at ys k n) m
    (λ j b.
    let c : j < n = omega (arith, b, length-take n (drop k xs)) in
    let d : k + j < length ys = omega (arith, b, length-take n (drop k xs), length-drop k xs, e) in
    get_at xs k n j c ∙ h (k + j) (omega arith) (omega (arith, c)) d ∙ sym (get_at ys k n j c))

module _ (file new : List ℕ) (at : ℕ) (within : at + length new ≤ length file) where
  pub length_put : length (put file at new) ≡ length file
  length_put = length_held file new (put file at new) at within refl

  pub get_apart : (j : ℕ) → j < length file → (j < at) ⊎ (at + length new ≤ j)
      → get_or (put file at new) j 0 ≡ get_or file j 0
  get_apart j l a =
      ⊎_elim
      (λ h. Prim.absurd (⊎_elim (λ (b : j < at). omega (arith, h.0.0, b)) (λ (b : at + length new ≤ j). omega (arith, h.0.1, b)) a))
      (λ h. h.1)
      ((copied file new (put file at new) at within refl).1 j l)

  pub get_inside : (j : ℕ) → j < length new → get_or (put file at new) (at + j) 0 ≡ get_or new j 0
  get_inside j l =
      ⊎_elim
      (λ h. h.1 ∙ ap (λ (m : ℕ). get_or new m 0) (omega arith))
      (λ h. Prim.absurd (h.0 (omega arith, omega (arith, l))))
      ((copied file new (put file at new) at within refl).1 (at + j) (omega (arith, within, l)))

  -- what lies apart from the write
  pub apart_same : (off need k n : ℕ) → (off + need ≤ at) ⊎ (at + length new ≤ off) → k + n ≤ need
      → bytes_at (drop off (put file at new)) k n ≡ bytes_at (drop off file) k n
  apart_same off need k n a f =
      at_drop (put file at new) off k n
      ∙ same_part (put file at new) file (off + k) n length_put
      (λ j x y l. get_apart j l (⊎_elim (λ (b : off + need ≤ at). inl (omega (arith, y, f, b))) (λ (b : at + length new ≤ off). inr (omega (arith, x, b))) a))
      ∙ sym (at_drop file off k n)

  -- what was written
  pub inside_same : (k n : ℕ) → k + n ≤ length new
      → bytes_at (drop at (put file at new)) k n ≡ bytes_at new k n
  inside_same k n f =
      let l : length (bytes_at (put file at new) (at + k) n) ≡ n =
      length-take-le n (drop (at + k) (put file at new)) (omega (arith, length-drop (at + k) (put file at new), length_put, within, f)) in
      let m : length (bytes_at new k n) ≡ n =
      length-take-le n (drop k new) (omega (arith, length-drop k new, f)) in
      at_drop (put file at new) at k n
      ∙ ext_get_or 0 (bytes_at (put file at new) (at + k) n) (bytes_at new k n) (l ∙ sym m)
      (λ j b.
      let c : j < n = omega (arith, b, l) in
      let e : at + k + j ≡ at + (k + j) = omega arith in
      get_at (put file at new) (at + k) n j c
      ∙ ap (λ (z : ℕ). get_or (put file at new) z 0) e
      ∙ get_inside (k + j) (omega (arith, c, f))
      ∙ sym (get_at new k n j c))
