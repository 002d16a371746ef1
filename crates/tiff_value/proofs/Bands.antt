-- Rows of samples written to a sink, some of their bytes at a time.
use Rattle.std.proofs.Common.{Bool, true, false, zero, suc, ◌≡◌, ℕ, ◌+◌, ◌-◌, ◌*◌, ◌/◌, ◌%◌, ◌<◌, ◌≤◌, List, [], ◌∷◌, ◌++◌, map, length, take, drop, Option, Some, None, Result, Ok, Err, MatchResult, inl, inr, refl, subst, ap, sym, ◌∙◌, arith, lit<, append_assoc, length-append, replicate}
use Rattle.std.specs.List.{range_with_len, flat_map}
use Rattle.std.specs.Prelude.{◌⊎◌, ◌==◌, IsSome}
use Rattle.std.proofs.lemmas.List.{length-map, take_all, take-append-le, length-take-le, length-drop, length-replicate}
use Rattle.std.proofs.lemmas.Slice.{take-put_mid}
use Rattle.std.proofs.Math.Nat.{le_trans, mul-le-mul_right, div-mul-le_self}
use Rattle.std.proofs.Math.Seq.{take-append_seam}
use borrow.Rule.Slice.PartMut.{put_mid, same_len_mid}
use Rattle.std.proofs.lemmas.List.FromFn.{fill_by_all}
use Rattle.std.proofs.lemmas.Grind.{flat_map-append}
use Rattle.tiff_base.specs.Number.{le}
use Rattle.tiff_base.specs.Types.{type_size}
use Rattle.tiff_base.specs.declared.error.TiffError.{TiffError}
use Rattle.tiff_base.specs.declared.tags.«Type».{«Type»}
use Rattle.tiff_base.specs.declared.tags.«Type».TheVariants.{BYTE, ASCII, SHORT, LONG, RATIONAL, SBYTE, UNDEFINED, SSHORT, SLONG, SRATIONAL, FLOAT, DOUBLE, IFD, LONG8, SLONG8, IFD8}
use Rattle.tiff_base.specs.declared.tags.Predictor.TheVariants.{Horizontal}
use Rattle.tiff_value.specs.Differences.{IsPart, stored_difference, differences, predicted_part, predicted_row}
use Rattle.tiff_value.specs.Written.{Written, writer_after, IsStopped, IsCut, WritesRaw}
use Rattle.tiff_value.proofs.Chunk.{joined, left_plain, row_made, row_seen}
use Rattle.tiff_base.specs.declared.tags.Predictor.{Predictor}
use Rattle.tiff_value.specs.lemmas.Differences.{first_kept, predicted}
use Rattle.tiff_value.proofs.Parts.{length-le}
use Rattle.tiff_value.specs.lemmas.Put.{moved-moved, cut_behind}

some_fault : {A : Type 0} (o : Option A) → o ≡ None → IsSome o → ⊥
some_fault None e h = absurd cc
some_fault (Some x) e h = absurd cc

-- a number of each type has at least one byte, and a band has room for one number
pub type_band : (type : «Type») → (0 < type_size type) × (0 < 8192 / type_size type)
type_band BYTE = (lit< tt, lit< tt)
type_band ASCII = (lit< tt, lit< tt)
type_band SHORT = (lit< tt, lit< tt)
type_band LONG = (lit< tt, lit< tt)
type_band RATIONAL = (lit< tt, lit< tt)
type_band SBYTE = (lit< tt, lit< tt)
type_band UNDEFINED = (lit< tt, lit< tt)
type_band SSHORT = (lit< tt, lit< tt)
type_band SLONG = (lit< tt, lit< tt)
type_band SRATIONAL = (lit< tt, lit< tt)
type_band FLOAT = (lit< tt, lit< tt)
type_band DOUBLE = (lit< tt, lit< tt)
type_band IFD = (lit< tt, lit< tt)
type_band LONG8 = (lit< tt, lit< tt)
type_band SLONG8 = (lit< tt, lit< tt)
type_band IFD8 = (lit< tt, lit< tt)

-- a part of a room of 8192 bytes, for as many numbers as fit, has the bytes of these numbers
band_long : (room : List ℕ) (at n size w : ℕ) → w ≡ size → n ≤ 8192 / w → length room ≡ 8192
    → length (take ((at + n - at) * w) room) ≡ (at + n - at) * size
band_long room at n size w same most long =
    let count : at + n - at ≡ n = omega arith in
    let few : n * w ≤ 8192 = le_trans (mul-le-mul_right w most) (div-mul-le_self 8192 w) in
    let within : (at + n - at) * w ≤ length room =
    subst (λ (k : ℕ). k * w ≤ length room) (sym count) (subst (λ (k : ℕ). n * w
    ≤ k) (sym long) few) in
    length-take-le ((at + n - at) * w) room within ∙ ap (λ (k : ℕ). (at + n - at) * k) same

-- the room has the bytes of a part of a row
pub band_part : (long : ℕ) (room : List ℕ) (at n size w : ℕ) → at + n ≤ long → w ≡ size → n ≤ 8192 / w
    → length room ≡ 8192 → IsPart long at (at + n) size (length (take ((at + n - at) * w) room))
band_part long room at n size w inside same most whole =
    record { order = omega arith; within = inside; fills = band_long room at n size w same most whole }

module _ (size : ℕ) (F : ℕ → ℕ) where
  -- the bytes of the first n numbers
  abbrev pub bytes_of : ℕ → List ℕ
  bytes_of n = flat_map (le size) (map F (range_with_len 0 n))

  -- the bytes of the numbers from `at` up to `end`
  abbrev pub bytes_between : ℕ → ℕ → List ℕ
  bytes_between at end = flat_map (le size) (map (λ j. F (at + j)) (range_with_len 0 (end - at)))

  pub bytes_joined : (at end : ℕ) → at ≤ end → bytes_of at ++ bytes_between at end ≡ bytes_of end
  bytes_joined at end h =
      let whole : at + (end - at) ≡ end = omega (arith, h) in
      sym (flat_map-append (le size) (map F (range_with_len 0 at)) (map (λ j. F (at + j)) (range_with_len 0 (end - at))))
      ∙ ap (flat_map (le size)) (joined F at (end - at)) ∙ ap bytes_of whole

  module _ (w : Written) (offset : w.at ≤ length w.bytes) where
    -- one more band
    pub band_next : (at end : ℕ) (v new : Written) → at ≤ end → v ≡ writer_after w (bytes_of at)
        → new ≡ writer_after v (bytes_between at end)
        → new ≡ writer_after w (bytes_of end)
    band_next at end v new h was is =
        is ∙ ap (λ (u : Written). writer_after u (bytes_between at end)) was
        ∙ moved-moved w (bytes_of at) (bytes_between at end) offset
        ∙ ap (writer_after w) (bytes_joined at end h)

    -- the sink fails inside a band
    pub band_cut : (at end n : ℕ) (v new : Written) (e : TiffError) → at ≤ end → end ≤ n
        → w.fault ≡ None → v ≡ writer_after w (bytes_of at)
        → IsCut (bytes_between at end) e v new → IsCut (bytes_of n) e w new
    band_cut at end n v new e h within fresh was c =
        let all : bytes_of n ≡ bytes_of at ++ (bytes_between at end ++ bytes_between end n) =
        sym (bytes_joined end n within)
        ∙ ap (λ bs. bs ++ bytes_between end n) (sym (bytes_joined at end h))
        ∙ append_assoc (bytes_of at) (bytes_between at end) (bytes_between end n) in
        cut_behind w v new (bytes_of at) (bytes_between at end) (bytes_between end n)
        (bytes_of n) e offset fresh was all c

-- a writer without an earlier error is not stopped by one
pub not_stopped : (xs : List ℕ) (e : TiffError) (w new : Written) → w.fault ≡ None
    → IsStopped e w new ⊎ IsCut xs e w new → IsCut xs e w new
not_stopped xs e w new fresh h =
    elim h [ inl s ↦ absurd (some_fault w.fault fresh s.failed) | inr c ↦ c ]

module _ (size m s : ℕ) (numbers : List ℕ) where
  -- the bytes of the differences of a row, in order
  pub row_bytes : 0 < s → s ≤ length numbers
      → flat_map (le size) (predicted_row m s numbers)
      ≡ bytes_of size (stored_difference Horizontal m (length numbers) s numbers) (length numbers)
  unfolding differences
  row_bytes some whole = ap (flat_map (le size)) (predicted m s numbers some whole)

  -- the part of a row from its first number to its end is the whole row
  pub whole_part : (end : ℕ) → end ≡ length numbers → 0 < s → s ≤ length numbers
      → flat_map (le size) (predicted_part m s 0 end numbers)
      ≡ flat_map (le size) (predicted_row m s numbers)
  whole_part end e some whole =
      let F = stored_difference Horizontal m (length numbers) s numbers in
      bytes_joined size F 0 end (omega arith) ∙ ap (bytes_of size F) e ∙ sym (row_bytes some whole)

module _ {A : Type 0} (size m l s : ℕ) (num : A → ℕ) (samples : List A) where
  abbrev pub all_numbers : List ℕ
  all_numbers = map num samples

  -- the number written in place of a number of several rows
  abbrev pub in_rows : ℕ → ℕ
  in_rows = stored_difference Horizontal m l s all_numbers

  -- the bytes of a row among several rows
  pub row_between : (at : ℕ) → 0 < s → s ≤ l → at + l ≤ length samples → at % l ≡ 0
      → flat_map (le size) (predicted_row m s (map num (take (at + l - at) (drop at samples))))
      ≡ bytes_between size in_rows at (at + l)
  row_between at some whole fits even =
      let long : length all_numbers ≡ length samples = length-map samples num in
      let count : l ≡ at + l - at = omega arith in
      ap (λ ns. flat_map (le size) (predicted_row m s ns)) (row_seen num at l samples)
      ∙ ap (flat_map (le size)) (row_made m l s all_numbers at some whole (omega (arith, long, fits)) even)
      ∙ ap (λ n. flat_map (le size) (map (λ j. in_rows (at + j)) (range_with_len 0 n))) count

  -- the bytes of all rows
  pub rows_bytes : (at : ℕ) → at ≡ length all_numbers
      → bytes_of size in_rows at ≡ flat_map (le size) (differences Horizontal m l s all_numbers)
  unfolding differences
  rows_bytes at e = ap (bytes_of size in_rows) e

-- a row no longer than its stride is written without differences
pub one_row : (predictor : Predictor) (m l s all : ℕ) (ns : List ℕ) → (predictor ≡ Horizontal → ⊥)
    → length ns ≤ all
    → differences Horizontal m all all ns ≡ differences predictor m l s ns
unfolding differences
one_row predictor m l s all ns other h =
    sym (fill_by_all (stored_difference Horizontal m all all ns) ns (length ns) 0 refl
    (λ k within. sym (first_kept m all all ns k (omega (arith, h, within)) (omega (arith, h, within)))))
    ∙ sym (left_plain predictor m l s ns other)

-- a number that isn't 0
pub some_of : (n : ℕ) (b : Bool) → b ≡ (n == 0) → b ≡ false → 0 < n
some_of zero b e f = let t : true ≡ false = sym e ∙ f in cc
some_of (suc n) b e f = omega arith

-- numbers have bytes
pub some_bytes : (size : ℕ) (ns : List ℕ) → 0 < size → 0 < length ns
    → 0 < length (flat_map (le size) ns)
some_bytes size [] s h = Prim.absurd (omega (arith, h))
some_bytes size (n ∷ ns) s h =
    let all : length (le size n ++ flat_map (le size) ns) ≡ length (le size n)
    + length (flat_map (le size) ns) = length-append (le size n) (flat_map (le size) ns) in
    let one : length (le size n) ≡ size = length-le 0 size n in
    omega (arith, all, one, s)

-- written bytes, or a part of them from the front, under an equal list of bytes
pub told_raw : {A : Type 0} (r : Result A TiffError) (xs ys : List ℕ) (w new : Written)
    → w.fault ≡ None → xs ≡ ys
    → MatchResult r (λ _. new ≡ writer_after w xs) (λ e. IsCut xs e w new) → WritesRaw ys w new r
told_raw (Ok x) xs ys w new fresh same h = (fresh, h ∙ ap (writer_after w) same)
told_raw (Err e) xs ys w new fresh same h = inr (subst (λ (bs : List ℕ). IsCut bs e w new) same h)

-- such bytes after nothing was written
pub told_after : {A : Type 0} (r : Result A TiffError) (xs ys : List ℕ) (w mid new : Written)
    → mid ≡ w → xs ≡ ys
    → MatchResult r (λ _. new ≡ writer_after mid xs) (λ e. IsCut xs e mid new)
    → MatchResult r (λ _. new ≡ writer_after w ys) (λ e. IsCut ys e w new)
told_after (Ok x) xs ys w mid new idle same h = h ∙ (λ t. writer_after (idle t) (same t))
told_after (Err e) xs ys w mid new idle same h =
    subst (λ (bs : List ℕ). IsCut bs e w new) same (subst (λ (v : Written). IsCut xs e v new) idle h)

-- zeros appended to a list, and then bytes in their place
pub put_behind : (old items xs part bytes : List ℕ) (start end len : ℕ) → xs ≡ items
    → items ≡ take end old ++ replicate (end - start) 0 → start ≡ length old
    → start ≤ end → len ≡ end → length part ≡ end - start → part ≡ bytes → (rest : List ℕ)
    → take len (put_mid start (length xs - start) xs part ++ rest) ≡ old ++ bytes
put_behind old items xs part bytes start end len seen are here order last many is rest =
    let k : ℕ = length xs - start in
    let whole : take end old ≡ old = take_all end old (omega (arith, here, order)) in
    let long : length xs ≡ end =
    ap length (seen ∙ are) ∙ omega (arith, length-append (take end old) (replicate (end - start) 0), ap length whole, length-replicate {A = ℕ} (end - start) 0, here, order) in
    let room : length part ≡ length (take k (drop start xs)) =
    sym (length-take-le k (drop start xs) (omega (arith, length-drop start xs))
    ∙ omega (arith, many, long)) in
    let filled : List ℕ = put_mid start k xs part in
    let kept : length filled ≡ length xs = same_len_mid start k xs part room in
    let front : take start xs ≡ old =
    ap (take start) (seen ∙ are ∙ ap (λ p. p ++ replicate (end - start) 0) whole)
    ∙ ap (λ n. take n (old ++ replicate (end - start) 0)) here
    ∙ take-append_seam old (replicate (end - start) 0) in
    take-append-le len filled rest (omega (arith, kept, long, last))
    ∙ take-put_mid start k xs part len (omega (arith, many, order, last)) (omega (arith, long, order))
    ∙ (λ i. front i ++ is i)
