-- Strips of zeros, as many as an image has.
use Rattle.std.proofs.Common.{◌≡◌, ℕ, zero, suc, ◌+◌, ◌-◌, ◌*◌, ◌<◌, ◌≤◌, Bool, true, false, cond, List, [], ◌∷◌, ◌++◌, length, map, take, drop, Result, Ok, Option, Some, None, refl, ap, sym, ◌∙◌, subst, arith, ⊎_elim, lit<}
use Rattle.std.proofs.Math.Nat.{div-le_of_le-mul, mod-eq_of_lt, zero-mod}
use Rattle.std.proofs.lemmas.List.{map-append, length-replicate}
use Rattle.std.proofs.lemmas.Bool.{cases_lt, le-ltb, lt-leb, lt-ltb, ltb-true}
use Rattle.std.specs.Prelude.{◌%◌, ◌^◌, min, not, ◌&&◌, ◌||◌, replicate, nat_lt, nat_le, if◌then◌else◌}
use Rattle.tiff_base.specs.declared.error.TiffError.{TiffError}
use Rattle.tiff_base.specs.declared.error.TiffError.TheVariants.{IoError, IntSizeError}
use Rattle.tiff_base.specs.declared.io.IoKind.TheVariants.{InvalidData, InvalidInput}
use Rattle.tiff_base.specs.declared.io.SinkFault.{SinkFault}
use Rattle.tiff_encode.specs.declared.encoder.settings.Compression.TheVariants.{Uncompressed}
use Rattle.tiff_value.specs.declared.encoder.colortype.ColorTypeName.{ColorTypeName}
use Rattle.tiff_value.specs.ColorType.{ColorTypeRecord, columns_of}
use Rattle.tiff_value.specs.ColorTypes.{Family, color_type, count_of, inner_size}
use Rattle.tiff_value.specs.ColorTypes.{Gray, RGB, RGBA, CMYK, CMYKA, YCbCr}
use Rattle.tiff_page.specs.Counts.{parts, all_chunks}
use Rattle.tiff_page.specs.Page.{PageRecord}
use Rattle.tiff_page.specs.Pixels.{planar_or}
use Rattle.tiff_page.specs.Rect.{chunks_of_plane}
use Rattle.tiff_encode.specs.Machine.{FileState, OpenImage}
use Rattle.tiff_encode.specs.Causes.{unless_ended, image_samples, is_past_chunks, write_image_data_cause}
use Rattle.tiff_encode.specs.Chunks.{all_samples, image_page, is_in_order, chunk_rows, row_samples, chunk_samples, chunks_left, is_begun, is_left, next_chunk_sample_count, parts_left, cut_out}
use Rattle.tiff_encode.specs.Calls.{image_in, new_image, write_chunk}
use Rattle.tiff_value.specs.Model.{header_model}
use Rattle.tiff_encode.specs.Drawn.{IsValidImage}
use Rattle.tiff_encode.specs.Parts.{next_part, WritesPart}
use Rattle.tiff_encode.specs.Storing.{WritesStoredChunk}
use Rattle.tiff_encode.specs.lemmas.ImageState.{strip_rows}
use Rattle.tiff_encode.proofs.Leaving.{ok_err}
use Rattle.tiff_encode.proofs.Open.Begun.{begins_open}
use Rattle.tiff_encode.specs.lemmas.Shown.Color.{of_family}
use Rattle.tiff_encode.proofs.Data.Begun.{new_is}
use Rattle.tiff_encode.specs.lemmas.Data.Offsets.{strip_of, chunky_of, wide, of_plane, all, above, within, count_is}
use Rattle.tiff_encode.proofs.Data.Written.{HasWritten, none_written, more_written, all_written}
use Rattle.tiff_ffi.specs.Zeros.{IsNewImage, HasZeros, zeros_of}

-- ---- zeros

take_zeros : (m n : ℕ) → m ≤ n → take m (replicate {A = ℕ} n 0) ≡ replicate m 0
take_zeros zero n l = refl
take_zeros (suc m) zero l = absurd (omega (arith, l))
take_zeros (suc m) (suc n) l = ap (λ xs. 0 ∷ xs) (take_zeros m n (omega (arith, l)))

drop_zeros : (m n : ℕ) → drop m (replicate {A = ℕ} n 0) ≡ replicate (n - m) 0
drop_zeros zero n = let e : n ≡ n - 0 = omega arith in ap (λ k. replicate k 0) e
drop_zeros (suc m) zero = let e : 0 ≡ 0 - suc m = omega arith in ap (λ k. replicate k 0) e
drop_zeros (suc m) (suc n) =
    drop_zeros m n ∙ (let e : n - m ≡ suc n - suc m = omega arith in ap (λ k. replicate k 0) e)

map_taken : {X : Type 0} (f : X → ℕ) (xs : List X) (n : ℕ) → map f (take n xs) ≡ take n (map f xs)
map_taken f xs zero = refl
map_taken f [] (suc n) = refl
map_taken f (x ∷ xs) (suc n) = ap (λ ys. f x ∷ ys) (map_taken f xs n)

zeros_more : (n : ℕ) → ◌++◌ {A = ℕ} (replicate n 0) (0 ∷ []) ≡ replicate (n + 1) 0
zeros_more zero = refl
zeros_more (suc n) =
    let e : suc (n + 1) ≡ suc n + 1 =
    omega arith in ap (λ xs. 0 ∷ xs) (zeros_more n) ∙ ap (λ k. replicate k 0) e

-- One more zero is one of them.
pub zero_pushed : {X : Type 0} (f : X → ℕ) (xs ys : List X) (x : X) (n : ℕ)
    → map f xs ≡ replicate n 0 → f x ≡ 0 → ys ≡ xs ++ x ∷ []
    → map f ys ≡ replicate (n + 1) 0
zero_pushed f xs ys x n h z more =
    ap (map f) more ∙ map-append f xs (x ∷ []) ∙ (λ j. h j ++ z j ∷ []) ∙ zeros_more n

-- A number that is cut from 0 is 0.
pub zero_cut : (s m : ℕ) → s ≡ 0 % m → s ≡ 0
zero_cut s m h = h ∙ zero-mod m

-- The first of some zeros are zeros.
pub zeros_taken : {X : Type 0} (f : X → ℕ) (xs : List X) (n : ℕ) → n ≤ length xs
    → map f xs ≡ replicate (length xs) 0 → map f (take n xs) ≡ replicate n 0
zeros_taken f xs n l h = map_taken f xs n ∙ ap (take n) h ∙ take_zeros n (length xs) l

-- ---- the strip that is next

some_product : (a b : ℕ) → 0 < a → 0 < b → 0 < a * b
some_product zero b h k = absurd (omega (arith, h))
some_product (suc a) b h k = let e : suc a * b ≡ a * b + b = omega arith in omega (arith, e, k)

parts_few : (n size : ℕ) → 0 < n → 0 < size → parts n size ≤ n
parts_few zero size h k = absurd (omega (arith, h))
parts_few (suc n) zero h k = absurd (omega (arith, k))
parts_few (suc n) (suc size) h k =
    let e : suc size * suc n ≡ size * n + size + n + 1 = omega arith in
    div-le_of_le-mul (suc size) (omega (arith, e))

module _ (now : OpenImage) (n : IsValidImage now.width now.height (length now.color.bits) (length now.extra) now.form)
    (order : is_in_order now.form ≡ true) (some : 0 < all_samples now)
    (few : image_samples now < 2 ^ 64) (left : is_left now ≡ true) where
  abbrev p : PageRecord
  p = image_page now

  abbrev c : ℕ
  c = length now.chunks

  counted : next_chunk_sample_count now ≡ chunk_samples p c
  counted = count_is now n order left c (omega arith) few

  ends : c * now.form.chunk_height * row_samples p + chunk_samples p c ≤ image_samples now
  ends = within now n order left c (omega arith)

  -- It has samples.
  has_samples : 0 < next_chunk_sample_count now
  has_samples =
      let strip = strip_of now.form.chunk_type now.form.planar order in
      let pos = n.wide.0 in
      let below : c < chunks_of_plane p =
      (let l = ltb-true c (all_chunks p) left in
      omega (arith, l, all now n order, of_plane now n order)) in
      let cut : c % chunks_of_plane p ≡ c = mod-eq_of_lt below in
      let h : ℕ = now.form.chunk_height in
      let rows : chunk_rows p c ≡ min h (now.height - c * h) =
      sym (strip_rows p c h now.height (chunks_of_plane p) (now.height - c % chunks_of_plane p * h) (min h (now.height - c % chunks_of_plane p * h)) strip (wide now n order) pos refl refl refl refl refl)
      ∙ ap (λ m. min h (now.height - m * h)) cut in
      let up = above now n order left c (omega arith) in
      let high = n.cut.high.0 in
      let some_rows : 0 < chunk_rows p c = omega (arith, rows, up, high) in
      let row : row_samples p ≡ now.width * all_samples now =
      (λ j. wide now n order j * planar_or (chunky_of now.form.chunk_type now.form.planar order j) 1 (all_samples now)) in
      let some_row : 0 < row_samples p =
      subst (λ m. 0 < m) (sym row) (some_product now.width (all_samples now) pos some) in
      subst (λ m. 0 < m) (sym counted) (some_product (chunk_rows p c) (row_samples p) some_rows some_row)

  -- It is the next part of an image of zeros.
  next_zeros : (total count : ℕ) → total ≡ image_samples now → count ≡ next_chunk_sample_count now
      → next_part now (replicate total 0) c ≡ replicate count 0
  next_zeros total count t k =
      let cs : ℕ = chunk_samples p c in
      let from : ℕ = c * (now.form.chunk_height * row_samples p) in
      let e : c * now.form.chunk_height * row_samples p ≡ from = omega arith in
      let fits : cs ≤ total - from = omega (arith, ends, e, t) in
      ap (λ b. cond b (take cs (drop from (replicate total 0))) (cut_out p (replicate total 0) c)) order
      ∙ ap (take cs) (drop_zeros from total) ∙ take_zeros cs (total - from) fits
      ∙ ap (λ m. replicate m 0) (sym counted ∙ sym k)

-- ---- all strips

stored_part : (cause : Option TiffError) (i : OpenImage) (part : List ℕ) (old new : FileState)
    (next : OpenImage)
    → (let r : Result (Unit {0}) TiffError = Ok tt in WritesStoredChunk write_chunk cause i part r old new next)
    → (let r : Result (Unit {0}) TiffError = Ok tt in WritesPart i part r old new next)
stored_part None i part old new next h = h
stored_part (Some e) i part old new next h = absurd (ok_err h.0)

-- the test whether a strip is left
by_left : (b : Bool) (m : ℕ) → 0 < cond b m 0 → b ≡ true
by_left true m h = refl
by_left false m h = absurd (omega (arith, h))

counts_left : (now : OpenImage) → 0 < next_chunk_sample_count now → is_left now ≡ true
unfolding next_chunk_sample_count
counts_left now h = by_left (is_left now) _ h

module _ (i : OpenImage) (n : IsNewImage i) (old mid : FileState) (now : OpenImage)
    (w : HasWritten i (parts_left i (zeros_of i)) (length now.chunks) old mid now) where
  drawn : IsValidImage now.width now.height (length now.color.bits) (length now.extra) now.form
  drawn =
      subst (λ j. IsValidImage j.width j.height (length j.color.bits) (length j.extra) j.form)
      (sym w.same) n.drawn

  ordered : is_in_order now.form ≡ true
  ordered = ap (λ j. is_in_order j.form) w.same ∙ n.order

  some_samples : 0 < all_samples now
  some_samples = subst (λ j. 0 < all_samples j) (sym w.same) n.some

  samples_same : image_samples now ≡ image_samples i
  samples_same = ap (λ j. image_samples j) w.same

  few_samples : image_samples now < 2 ^ 64
  few_samples = let f = n.few in omega (arith, samples_same, f)

  all_same : all_chunks (image_page now) ≡ chunks_left i
  all_same =
      let a : all_chunks (image_page now) ≡ all_chunks (image_page i) =
      ap (λ j. all_chunks (image_page j)) w.same in
      let none : length i.chunks ≡ 0 = ap (λ (cs : List _). length cs) n.none in
      omega (arith, a, none)

  -- One more strip is written.
  pub more_zeros : (count : ℕ) (strip : List ℕ) (new : FileState) (next : OpenImage)
      (cause : Option TiffError) → count ≡ next_chunk_sample_count now → 0 < count
      → strip ≡ replicate count 0 → (let r : Result (Unit {0}) TiffError = Ok tt in WritesStoredChunk write_chunk cause now strip r mid new next)
      → HasWritten i (parts_left i (zeros_of i)) (length next.chunks) old new next
      × ((length next.chunks ≡ length now.chunks + 1) × (length now.chunks + 1 ≤ chunks_left i))
  more_zeros count strip new next cause k pos zeros h =
      let left : is_left now ≡ true = counts_left now (subst (λ m. 0 < m) k pos) in
      let less : length now.chunks < chunks_left i =
      (let l = ltb-true (length now.chunks) (all_chunks (image_page now)) left in
      omega (arith, l, all_same)) in
      let part : next_part now (zeros_of i) (length now.chunks) ≡ strip =
      next_zeros now drawn ordered some_samples few_samples left (image_samples i) count
      (sym samples_same) k ∙ sym zeros in
      let more = more_written i (zeros_of i) (length now.chunks) old mid new now next less w
      (subst (λ (xs : List ℕ). let r : Result (Unit {0}) TiffError = Ok tt in
      WritesPart now xs r mid new next) (sym part) (stored_part cause now strip mid new next h)) in
      let none : length i.chunks ≡ 0 = ap (λ (cs : List _). length cs) n.none in
      let many : length next.chunks ≡ length now.chunks + 1 =
      (let c = more.chunks in omega (arith, c, none)) in
      (subst (λ m. HasWritten i (parts_left i (zeros_of i)) m old new next) (sym many) more, (many, omega (arith, less)))

  -- No strip is left.
  pub all_zeros : (0 < next_chunk_sample_count now → ⊥) → length now.chunks ≤ chunks_left i
      → HasZeros i old mid now
  all_zeros none within =
      let reached : chunks_left i ≤ length now.chunks =
      ⊎_elim
      (λ (l : length now.chunks < chunks_left i).
      absurd (none (has_samples now drawn ordered some_samples few_samples (lt-ltb (length now.chunks) (all_chunks (image_page now)) (omega (arith, l, all_same))))))
      (λ (g : chunks_left i ≤ length now.chunks). g) (cases_lt (length now.chunks) (chunks_left i)) in
      all_written i (zeros_of i) (length now.chunks) old mid now (omega (arith, within, reached)) w

-- before the first strip
pub no_zeros : (i : OpenImage) → IsNewImage i → (old : FileState)
    → HasWritten i (parts_left i (zeros_of i)) (length i.chunks) old old i
no_zeros i n old =
    let none : length i.chunks ≡ 0 = ap (λ (cs : List _). length cs) n.none in
    subst (λ m. HasWritten i (parts_left i (zeros_of i)) m old old i) (sym none)
    (none_written i (zeros_of i) old)

-- ---- the whole image

-- no error refuses the samples
none_refused : (fault : Option SinkFault) (far begun few past : Bool) → fault ≡ None → far ≡ false
    → begun ≡ false → few ≡ false → past ≡ false
    → unless_ended fault (if far || begun then Some (IoError InvalidInput) else if few then
    Some (IoError InvalidData) else if past then Some IntSizeError else None) ≡ None
none_refused fault far begun few past a b c d e = rw (a, b, c, d, e) refl

unbegun : {A : Type 0} (chunks : List A) (rest : Bool) → chunks ≡ []
    → (nat_lt 0 (length chunks) && rest) ≡ false
unbegun chunks rest h = ap (λ cs. nat_lt 0 (length cs) && rest) h

-- Nothing refuses samples of an image without strips, if they are as many as it has.
pub none_refuses : (i : OpenImage) → IsNewImage i → (file : FileState) (count : ℕ)
    → file.fault ≡ None → count ≡ image_samples i → write_image_data_cause file i count ≡ None
unfolding write_image_data_cause
none_refuses i n file count fresh whole =
    let few = n.few in
    let chunks : all_chunks (image_page i) ≤ i.height =
    (let a = all i n.drawn n.order in let m =
    parts_few i.height i.form.chunk_height n.drawn.high.0 n.drawn.cut.high.0 in omega (arith, a, m)) in
    let high = n.drawn.high.1 in
    none_refused file.fault (nat_le (2 ^ 64) (image_samples i)) (is_begun i && not (is_in_order i.form)) (nat_lt count (image_samples i)) (is_past_chunks i) fresh
    (lt-leb (2 ^ 64) (image_samples i) few) (unbegun i.chunks (not (is_in_order i.form)) n.none)
    (le-ltb count (image_samples i) (omega (arith, whole)))
    (lt-leb (2 ^ 32) (all_chunks (image_page i)) (omega (arith, chunks, high)))

-- ---- an image that was begun

some_family : (f : Family) → 0 < count_of f
some_family Gray = lit< tt
some_family RGB = lit< tt
some_family RGBA = lit< tt
some_family CMYK = lit< tt
some_family CMYKA = lit< tt
some_family YCbCr = lit< tt

-- It has no strip yet.
pub begun_new : (name : ColorTypeName) (color : ColorTypeRecord) (size width height : ℕ)
    (file : FileState) (i : OpenImage) → color ≡ color_type name → size ≡ inner_size name
    → width < 2 ^ 32 → height < 2 ^ 32 → file.compression ≡ Uncompressed
    → columns_of color width * height * length color.bits < 2 ^ 64
    → (new_image color size width height file).answer ≡ Ok i → IsNewImage i
begun_new name color size width height file i colored sized w h plain few begun =
    let named : (new_image (color_type name) (inner_size name) width height file).answer ≡ Ok i =
    subst (λ k. (new_image (color_type name) k width height file).answer
    ≡ Ok i) sized (subst (λ k. (new_image k size width height file).answer
    ≡ Ok i) colored begun) in
    let o = (begins_open file (header_model file.kind) name width height i w h named).open_so in
    let n = new_is color size width height file i begun in
    let is : image_in file n.0 color size width height ≡ i = n.1.0 in
    let bits : length color.bits ≡ count_of (of_family name).family =
    ap (λ k. length k.bits) colored ∙ ap (λ (bs : List ℕ). length bs) (of_family name).bits
    ∙ length-replicate (count_of (of_family name).family) _ in
    let some = some_family (of_family name).family in
    record {
      none = ap (λ j. j.chunks) (sym is);
      order = ap (λ j. is_in_order j.form) (sym is);
      drawn = record { wide = o.wide; high = o.high; few = o.few; cut = o.form };
      some = subst (λ j. 0 < all_samples j) is (omega (arith, bits, some));
      few = subst (λ j. image_samples j < 2 ^ 64) is (omega (arith, few));
    }
