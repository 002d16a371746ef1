-- Chunks that encode samples show them.
use Rattle.std.proofs.Common.{refl, Bool, true, cond, ◌≡◌, ℕ, ◌+◌, ◌*◌, ◌%◌, ◌^◌, ◌<◌, ◌≤◌, false, List, ◌++◌, length, get_or, ap, sym, ◌∙◌, subst, arith, length-append}
use Rattle.std.specs.Prelude.{nat_lt, slice_index}
use Rattle.std.proofs.lemmas.Bool.{le-ltb}
use Rattle.std.proofs.lemmas.Nat.{mod_below}
use Rattle.std.proofs.Math.Nat.{mul_assoc}
use Rattle.tiff_base.specs.declared.tags.ByteOrder.TheVariants.{LittleEndian}
use Rattle.tiff_base.specs.declared.tags.FileKind.{FileKind}
use Rattle.tiff_base.specs.Color.{num_samples}
use Rattle.tiff_value.specs.ColorType.{is_packed}
use Rattle.tiff_page.specs.Page.{PageRecord}
use Rattle.tiff_page.specs.Layout.{row_bytes}
use Rattle.tiff_page.specs.Counts.{all_chunks}
use Rattle.tiff_page.specs.Rect.{chunk_of_pixel}
use Rattle.tiff_page.specs.Methods.{data_by_method}
use Rattle.tiff_page.specs.Pixels.{planar_or, stored_samples, stored_row_bytes, chunk_data, stored_number, needed_bytes, image_region, is_short, packed_byte, shown_sample}
use Rattle.tiff_page.specs.Laws.{HasSides}
use Rattle.tiff_encode.specs.Machine.{OpenImage, compression_method}
use Rattle.tiff_encode.specs.Chunks.{image_page, shown_page, chunk_rows, row_samples, sample_in}
use Rattle.tiff_encode.specs.Stored.{unpacked_chunk}
use Rattle.tiff_encode.specs.Held.{IsWholeImage, samples_of_chunk, AreSupplied, HasChunks, ShowsSamples, ChunksShow}
use Rattle.tiff_encode.specs.lemmas.Shown.Color.{IsOf, is_of_family, IsColored, colored}
use Rattle.tiff_encode.proofs.Shown.Packed.{plain_page, pixels_shown}
use Rattle.tiff_page.specs.lemmas.Rows.{some_size}
use Rattle.tiff_encode.proofs.Shown.Data.{data_begin, row_is, length_bytes, number_is}
use Rattle.tiff_encode.specs.lemmas.Shown.Offsets.{plane_within, sample_within, chunk_listed, offset_within, offset_same, needed_within}

-- an image with all chunks written, and the samples that the chunks receive
module _ (kind : FileKind) (file : List ℕ) (i : OpenImage) (samples : List (List ℕ))
    (w : IsWholeImage kind i) (h : AreSupplied i samples) (there : HasChunks file i samples) where
  -- the page of the image
  abbrev p : PageRecord
  p = image_page i

  sides : HasSides p
  sides =
      record { wide = w.wide.0; high = w.high.0; chunk_wide = w.form.wide.0; chunk_high = w.form.high.0 }

  -- the color type of the image is of a family
  is_of : IsOf i.color i.size
  is_of = is_of_family i w.name w.color w.size

  tinted : IsColored i
  tinted = colored i is_of

  -- the data of a chunk begin with the chunk's bytes
  begins : (k : ℕ) → k < all_chunks p
      → (rest : List ℕ) × (chunk_data file LittleEndian p k
      ≡ unpacked_chunk i (samples_of_chunk samples k) ++ rest)
  begins k b =
      let t = there k b in
      let bytes : List ℕ = unpacked_chunk i (samples_of_chunk samples k) in
      let offset : ℕ = slice_index p.offsets k in
      let P : ℕ → Type 0 =
      λ n. (rest : List ℕ) × (data_by_method file (compression_method i.compression) offset n
      ≡ bytes ++ rest) in
      subst P t.1.1.0 (data_begin file LittleEndian p offset t.0 bytes t.1.0 i.compression (row_samples p * i.size) t.1.1.1)

  -- no chunk has too few data
  not_short : (k : ℕ) → k < all_chunks p → is_short file LittleEndian p tinted.color k ≡ false
  not_short k b =
      let t = begins k b in
      let xs : List ℕ = samples_of_chunk samples k in
      let bytes : List ℕ = unpacked_chunk i xs in
      let rows : ℕ = chunk_rows p k in
      let n : needed_bytes p tinted.color k ≤ rows * stored_row_bytes p =
      needed_within p sides tinted.color k tinted.few in
      let r : rows * stored_row_bytes p ≡ rows * (row_samples p * i.size) =
      ap (λ (m : ℕ). rows * m) (row_is i tinted) in
      let a : rows * row_samples p * i.size ≡ rows * (row_samples p * i.size) =
      mul_assoc rows (row_samples p) i.size in
      let l : length bytes ≡ rows * row_samples p * i.size =
      length_bytes i tinted xs ∙ ap (λ (m : ℕ). m * i.size) (h.lengths k b) in
      let d : length (chunk_data file LittleEndian p k) ≡ length bytes + length t.0 =
      ap length t.1 ∙ length-append bytes t.0 in
      le-ltb (length (chunk_data file LittleEndian p k)) (needed_bytes p tinted.color k)
      (omega (arith, n, r, a, l, d))

  -- a shown sample is the sample that the chunk receives
  sample_shown : (x y sample : ℕ) → x < p.width → y < p.height → sample < num_samples tinted.color
      → shown_sample file LittleEndian p x y sample ≡ sample_in p samples x y sample
  unfolding shown_sample sample_in
  sample_shown x y sample xl yl sl =
      let few : sample < p.samples = omega (arith, sl, tinted.few) in
      let plane : ℕ = planar_or p.planar sample 0 in
      let one : ℕ = planar_or p.planar 0 sample in
      let k : ℕ = chunk_of_pixel p plane x y in
      let row : ℕ = y % p.chunk_height in
      let column : ℕ = x % p.chunk_width in
      let b : k < all_chunks p =
      chunk_listed p sides plane x y xl yl (plane_within p.planar p.samples sample few) in
      let f : one < stored_samples p = sample_within p.planar p.samples sample few in
      let t = begins k b in
      let xs : List ℕ = samples_of_chunk samples k in
      let within : row * row_samples p + (column * stored_samples p + one) < length xs =
      subst (λ (n : ℕ). row * row_samples p + (column * stored_samples p + one)
      < n) (sym (h.lengths k b)) (offset_within p sides plane x y xl yl one f) in
      tinted.upright (2 ^ p.depth) (stored_number file LittleEndian p k row column one)
      ∙ number_is i tinted xs file t.0 k t.1 (h.small k) w.predicted_by row column one f
      (mod_below x p.chunk_width sides.chunk_wide) within
      ∙ ap (λ (n : ℕ). get_or xs n 0) (offset_same p sides row column one)

  -- the page of the columns shows them
  columns_show : ShowsSamples file p (sample_in p samples)
  columns_show =
      let deep : nat_lt (8 * i.size) 8 ≡ false =
      le-ltb (8 * i.size) 8 (omega (arith, some_size i.size tinted.is_size)) in
      record {
        color = tinted.color;
        is_color = tinted.is_color;
        whole = not_short;
        shows = λ x y sample xl yl sl.
            let P : Bool → Type 0 = λ b. x < cond b (row_bytes p tinted.color p.width) p.width
            → cond b (packed_byte file LittleEndian p tinted.color (image_region p) (planar_or p.planar sample 0) y x) (shown_sample file LittleEndian p x y sample)
            ≡ sample_in p samples x y sample in
            subst P (sym deep) (λ l. sample_shown x y sample l yl sl) xl;
      }

  -- the page that the reader finds shows them
  pages_show : (b : Bool) → is_packed i.color ≡ b
      → ShowsSamples file (shown_page i) (sample_in p samples)
  pages_show true y =
      pixels_shown i is_of w.wide w.form w.pixels y file tinted.color
      (sample_in p samples) tinted.is_color not_short sample_shown
  pages_show false n =
      subst (λ q. ShowsSamples file q (sample_in p samples)) (sym (plain_page i is_of w.wide w.form w.pixels n)) columns_show

-- chunks that encode samples show them
pub chunks_show : ChunksShow
chunks_show kind file i samples w h there =
    pages_show kind file i samples w h there (is_packed i.color) refl
