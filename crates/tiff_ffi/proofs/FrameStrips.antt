-- The strips of an image without compression and predictor are, one behind the other, the bytes of
-- its samples.
use Rattle.std.proofs.Common.{◌≡◌, ℕ, zero, suc, ◌+◌, ◌-◌, ◌*◌, ◌<◌, ◌≤◌, ⊎_elim, List, [], ◌∷◌, ◌++◌, length, map, take, drop, Ok, refl, ap, ap₂, sym, ◌∙◌, subst, arith, append_assoc, append-nil, length-drop}
use Rattle.std.proofs.Math.Nat.{mul_comm, mul-sub, mul-le-mul_right, mod-eq_of_lt, lt-div-mul-add}
use Rattle.std.proofs.lemmas.Bool.{cases_lt}
use Rattle.std.proofs.lemmas.Grind.{flat_map-append}
use Rattle.std.proofs.lemmas.List.{take_all, length-take}
use Rattle.std.proofs.lemmas.List.FromFn.{map-range_with_len_more}
use Rattle.std.specs.Prelude.{◌%◌, ◌^◌, min}
use Rattle.std.specs.List.{flat_map, range_with_len}
use Rattle.tiff_base.specs.declared.tags.Predictor.TheVariants as predictor
use Rattle.tiff_base.specs.Number.{le}
use Rattle.tiff_value.specs.ColorType.{ColorTypeRecord}
use Rattle.tiff_value.specs.Differences.{differences}
use Rattle.tiff_page.specs.Page.{PageRecord}
use Rattle.tiff_page.specs.Counts.{parts}
use Rattle.tiff_page.specs.Rect.{across, chunks_of_plane}
use Rattle.tiff_page.specs.Pixels.{tabulate, stored_samples}
use Rattle.tiff_encode.specs.declared.encoder.settings.Compression.TheVariants.{Uncompressed}
use Rattle.tiff_encode.specs.Machine.{FileState, OpenDirectory, OpenImage, WriteCall}
use Rattle.tiff_encode.specs.Causes.{write_chunk_cause, image_samples}
use Rattle.tiff_encode.specs.Chunks.{all_samples, image_page, chunk_rows, row_samples, chunk_samples, chunks_left, part, parts_left}
use Rattle.tiff_encode.specs.Calls.{image_in, appends_chunk, write_chunk, write_chunks}
use Rattle.tiff_encode.specs.Stored.{AreStored, IsCompressed, unpacked_chunk}
use Rattle.tiff_encode.proofs.Data.Calls.{bind_answered, cause_answered}
use Rattle.tiff_encode.specs.lemmas.ImageState.{one_part, strip_rows}
use Rattle.tiff_encode.proofs.Storing.{left_plain}
use Rattle.tiff_laws.specs.lemmas.Back.{take_next}
use Rattle.tiff_ffi.proofs.FrameAlike.{sizes}

-- lists one behind the other
abbrev pub joined : List (List ℕ) → List ℕ
joined [] = []
joined (x ∷ xs) = x ++ joined xs

joined_more : (xs : List (List ℕ)) (x : List ℕ) → joined (xs ++ x ∷ []) ≡ joined xs ++ x
joined_more [] x = append-nil x
joined_more (y ∷ ys) x =
    ap (λ more. y ++ more) (joined_more ys x) ∙ sym (append_assoc y (joined ys) x)

-- ---- what the calls append

-- The strips are appended one behind the other.
pub strips_appended : (i last : OpenImage) (parts stored : List (List ℕ)) (file : FileState)
    → length stored ≡ length parts
    → (write_chunks i parts stored file).answer ≡ Ok last
    → (write_chunks i parts stored file).next.bytes ≡ file.bytes ++ joined stored
unfolding write_chunk
strips_appended i last [] [] file n h = sym (append-nil file.bytes)
strips_appended i last [] (bytes ∷ stored) file n h = absurd (omega (arith, n))
strips_appended i last (part ∷ parts) [] file n h = absurd (omega (arith, n))
strips_appended i last (part ∷ parts) (bytes ∷ stored) file n h =
    let call : WriteCall OpenImage = write_chunk i (length part) bytes in
    let a = bind_answered call (λ next. write_chunks next parts stored) file last h in
    let c =
    cause_answered (write_chunk_cause file i (length part) (length bytes))
    (appends_chunk i bytes) file a.0 a.1.0 in
    let first : (call file).next.bytes ≡ file.bytes ++ bytes = ap (λ told. told.next.bytes) c.1 in
    ap (λ told. told.next.bytes) a.1.1
    ∙ strips_appended a.0 last parts stored (call file).next (omega (arith, n))
    (ap (λ told. told.answer) (sym a.1.1) ∙ h)
    ∙ ap (λ (b : List ℕ). b ++ joined stored) first ∙ append_assoc file.bytes bytes (joined stored)

-- ---- the bytes of each strip

pub unpacked_plain : (i : OpenImage) (samples : List ℕ) → i.predictor ≡ predictor.None
    → unpacked_chunk i samples ≡ flat_map (le i.size) samples
unfolding unpacked_chunk
unpacked_plain i samples p =
    let page = image_page i in
    ap (λ q. flat_map (le i.size) (differences q (256 ^ i.size) (row_samples page) (stored_samples page) samples)) p
    ∙ ap (flat_map (le i.size)) (left_plain (256 ^ i.size) (row_samples page) (stored_samples page) samples)

pub strips_are : (i : OpenImage) (parts stored : List (List ℕ)) → i.compression ≡ Uncompressed
    → i.predictor ≡ predictor.None
    → length stored ≡ length parts → AreStored i parts stored
    → joined stored ≡ flat_map (le i.size) (joined parts)
strips_are i [] [] m p n s = refl
strips_are i [] (bytes ∷ stored) m p n s = absurd (omega (arith, n))
strips_are i (part ∷ parts) [] m p n s = absurd (omega (arith, n))
strips_are i (part ∷ parts) (bytes ∷ stored) m p n s =
    let first : bytes ≡ unpacked_chunk i part =
    subst (λ k. IsCompressed k (row_samples (image_page i) * i.size) bytes (unpacked_chunk i part)) m s.0 in
    ap₂ ◌++◌ (first ∙ unpacked_plain i part p) (strips_are i parts stored m p (omega (arith, n)) s.1)
    ∙ sym (flat_map-append (le i.size) part (joined parts))

-- ---- the samples of each strip

-- a part that reaches to the next one or to the end is cut to neither
part_is : (high all row k : ℕ) (samples : List ℕ) → length samples ≡ all * row
    → take (min high (all - k * high) * row) (drop (k * (high * row)) samples)
    ≡ take (high * row) (drop (k * (high * row)) samples)
part_is high all row k samples n =
    ⊎_elim
    (λ (l : all - k * high < high).
    let rest : List ℕ = drop (k * (high * row)) samples in
    let rows : min high (all - k * high) ≡ all - k * high = omega (arith, l) in
    let before : k * (high * row) ≡ k * high * row = omega arith in
    let size : (all - k * high) * row ≡ row * all - row * (k * high) =
    mul_comm (all - k * high) row ∙ mul-sub row all (k * high) in
    let len : length rest ≡ (all - k * high) * row =
    omega (arith, length-drop (k * (high * row)) samples, n, before, size) in
    let most : (all - k * high) * row ≤ high * row = mul-le-mul_right row (omega (arith, l)) in
    ap (λ r. take (r * row) rest) rows ∙ take_all ((all - k * high) * row) rest (omega (arith, len)) ∙ sym (take_all (high * row) rest (omega (arith, len, most))))
    (λ (l : high ≤ all - k * high). let rows : min high (all - k * high)
    ≡ high = omega (arith, l) in ap (λ r. take (r * row) (drop (k * (high * row)) samples)) rows)
    (cases_lt (all - k * high) high)

parts_joined : (step n : ℕ) (samples : List ℕ)
    → joined (tabulate n (λ k. take step (drop (k * step) samples))) ≡ take (n * step) samples
parts_joined step zero samples =
    let e : 0 ≡ 0 * step = omega arith in ap (λ (k : ℕ). take k samples) e
parts_joined step (suc n) samples =
    let piece : ℕ → List ℕ = λ k. take step (drop (k * step) samples) in
    let more : suc n ≡ n + 1 = omega arith in
    let len : n * step + step ≡ suc n * step = omega arith in
    ap (λ (k : ℕ). joined (tabulate k piece)) more
    ∙ ap joined (map-range_with_len_more piece 0 n n (omega arith))
    ∙ joined_more (tabulate n piece) (piece n)
    ∙ ap (λ (xs : List ℕ). xs ++ piece n) (parts_joined step n samples)
    ∙ take_next (n * step) step samples
    ∙ ap (λ (k : ℕ). take k samples) len

tabulate_alike : (n : ℕ) (f g : ℕ → List ℕ) → ((k : ℕ) → k < n → f k ≡ g k)
    → tabulate n f ≡ tabulate n g
tabulate_alike zero f g same = refl
tabulate_alike (suc n) f g same =
    let more : suc n ≡ n + 1 = omega arith in
    ap (λ k. tabulate k f) more ∙ map-range_with_len_more f 0 n n (omega arith)
    ∙ ap₂ (λ xs x. xs ++ x ∷ []) (tabulate_alike n f g (λ k l. same k (omega (arith, l))))
    (same n (omega arith))
    ∙ sym (ap (λ k. tabulate k g) more ∙ map-range_with_len_more g 0 n n (omega arith))

sizes_alike : (ks : List ℕ) (f g : ℕ → List ℕ) → ((k : ℕ) → length (f k) ≡ length (g k))
    → sizes (map f ks) ≡ sizes (map g ks)
sizes_alike [] f g same = refl
sizes_alike (k ∷ ks) f g same = ap₂ ◌∷◌ (same k) (sizes_alike ks f g same)

-- so many parts of a size reach to the end
parts_reach : (n size : ℕ) → 0 < size → n ≤ parts n size * size
parts_reach n size pos =
    let most = lt-div-mul-add {a = n + size - 1} {b = size} pos in omega (arith, most, pos)

module _ (file : FileState) (d : OpenDirectory) (color : ColorTypeRecord) (size width height : ℕ) where
  abbrev i : OpenImage
  i = image_in file d color size width height

  abbrev p : PageRecord
  p = image_page i

  -- the rows of a strip, and the samples of a row
  abbrev high : ℕ
  high = i.form.chunk_height

  abbrev row : ℕ
  row = row_samples p

  module _ (pos : 0 < i.width) (rows : 0 < high) (samples : List ℕ)
      (whole : length samples ≡ image_samples i) where
    one_across : across p ≡ 1
    one_across = one_part i.width i.width pos (omega arith)

    of_plane : chunks_of_plane p ≡ parts height high
    of_plane =
        let e : 1 * parts height high ≡ parts height high =
        omega arith in ap (λ n. n * parts height high) one_across ∙ e

    left : chunks_left i ≡ parts height high
    left = let a = of_plane in omega (arith, a)

    all_rows : length samples ≡ height * row
    all_rows = let e : i.width * height * all_samples i ≡ height * row = omega arith in whole ∙ e

    rows_of : (k : ℕ) → k < parts height high → chunk_rows p k ≡ min high (height - k * high)
    rows_of k l =
        let cut : k % chunks_of_plane p ≡ k = mod-eq_of_lt (subst (λ n. k < n) (sym of_plane) l) in
        sym (strip_rows p k high height (chunks_of_plane p) (height - k % chunks_of_plane p * high) (min high (height - k % chunks_of_plane p * high)) refl refl pos refl refl refl refl refl)
        ∙ ap (λ n. min high (height - n * high)) cut

    part_of : (k : ℕ) → k < parts height high
        → part i samples k ≡ take (high * row) (drop (k * (high * row)) samples)
    part_of k l =
        let same : 0 + k ≡ k = omega arith in
        ap (λ n. take (chunk_samples p n) (drop (k * (high * row)) samples)) same
        ∙ ap (λ n. take (n * row) (drop (k * (high * row)) samples)) (rows_of k l)
        ∙ part_is high height row k samples all_rows

    -- The strips have the samples of the image, in their order.
    pub parts_are : joined (parts_left i samples) ≡ samples
    unfolding parts_left
    parts_are =
        let n : ℕ = parts height high in
        let piece : ℕ → List ℕ = λ k. take (high * row) (drop (k * (high * row)) samples) in
        let reach : height * row ≤ n * (high * row) =
        (let a : height * row ≤ n * high * row = mul-le-mul_right row (parts_reach height high rows) in
        let e : n * high * row ≡ n * (high * row) = omega arith in
        omega (arith, a, e)) in
        ap (λ m. joined (tabulate m (part i samples))) left
        ∙ ap joined (tabulate_alike n (part i samples) piece part_of)
        ∙ parts_joined (high * row) n samples
        ∙ take_all (n * (high * row)) samples (omega (arith, all_rows, reach))

  part_len : (xs ys : List ℕ) → length ys ≡ length xs → (k : ℕ)
      → length (part i ys k) ≡ length (part i xs k)
  part_len xs ys same k =
      let many : ℕ = chunk_samples p (0 + k) in
      let from : ℕ = k * (high * row) in
      let a = length-take many (drop from ys) in
      let b = length-take many (drop from xs) in
      let c : length (drop from ys) ≡ length (drop from xs) =
      length-drop from ys ∙ ap (λ n. n - from) same ∙ sym (length-drop from xs) in
      a ∙ ap (λ n. min many n) c ∙ sym b

  -- The strips of as many samples have as many samples.
  pub parts_alike : (xs ys : List ℕ) → length ys ≡ length xs
      → sizes (parts_left i ys) ≡ sizes (parts_left i xs)
  unfolding parts_left
  parts_alike xs ys same =
      sizes_alike (range_with_len 0 (chunks_left i)) (part i ys) (part i xs) (part_len xs ys same)
