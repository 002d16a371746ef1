-- The page of packed pixels shows the bytes that the page of its columns shows.
use Rattle.std.proofs.Common.{◌≡◌, ℕ, ◌+◌, ◌-◌, ◌*◌, ◌/◌, ◌%◌, ◌<◌, min, inl, inr, Bool, true, false, cond, List, [], length, get_or, Ok, refl, ap, sym, ◌∙◌, subst, arith, lit<}
use Rattle.std.specs.Prelude.{nat_lt, slice_index}
use Rattle.std.proofs.lemmas.Bool.{lt-ltb, le-ltb, ltb-true, ltb-false}
use Rattle.std.proofs.lemmas.List.{length-replicate}
use Rattle.std.proofs.lemmas.Nat.{mod_below}
use Rattle.std.proofs.Math.Nat.{div-eq_of_lt}
use Rattle.tiff_base.specs.declared.color.ChunkType.{ChunkType}
use Rattle.tiff_base.specs.declared.color.ChunkType.TheVariants.{Strip, Tile}
use Rattle.tiff_base.specs.declared.color.ColorType.{ColorType}
use Rattle.tiff_base.specs.declared.color.ColorType.TheVariants.{Gray}
use Rattle.tiff_base.specs.declared.tags.ByteOrder.TheVariants.{LittleEndian}
use Rattle.tiff_base.specs.declared.tags.CompressionMethod.{CompressionMethod}
use Rattle.tiff_base.specs.declared.tags.PhotometricInterpretation.TheVariants.{BlackIsZero}
use Rattle.tiff_base.specs.declared.tags.PlanarConfiguration.{PlanarConfiguration}
use Rattle.tiff_base.specs.declared.tags.PlanarConfiguration.TheVariants.{Chunky, Planar}
use Rattle.tiff_base.specs.declared.tags.Predictor.TheVariants as predictor
use Rattle.tiff_base.specs.declared.tags.SampleFormat.{SampleFormat}
use Rattle.tiff_base.specs.declared.tags.SampleFormat.TheVariants.{Void}
use Rattle.tiff_base.specs.Color.{num_samples}
use Rattle.tiff_base.specs.SourceAndSink.{bytes_at}
use Rattle.tiff_value.specs.ColorType.{first_bits, is_packed}
use Rattle.tiff_value.specs.ColorTypes.{meaning_of, count_of}
use Rattle.tiff_value.specs.ColorTypes as family
use Rattle.tiff_page.specs.Page.{PageRecord}
use Rattle.tiff_page.specs.Counts.{parts, planes_of, all_chunks}
use Rattle.tiff_page.specs.Rect.{across, chunks_of_plane, rect, chunk_of_pixel}
use Rattle.tiff_page.specs.Layout.{row_bits, row_bytes, samples_in_chunk, color_of}
use Rattle.tiff_page.specs.Pixels.{planar_or, stored_row_bytes, needed_of_row, needed_bytes, chunk_data, stored_row, is_short, image_region, packed_byte, shown_sample}
use Rattle.tiff_page.specs.lemmas.Rows.{one_number, some_size}
use Rattle.tiff_encode.specs.Machine.{OpenImage, compression_method}
use Rattle.tiff_encode.specs.Drawn.{IsSide, IsForm, HoldsPixels}
use Rattle.tiff_encode.specs.Chunks.{all_samples, subsampling_of, image_page, pixels_across, shown_page}
use Rattle.tiff_encode.specs.Shows.{shown_columns, shown_at}
use Rattle.tiff_encode.specs.Held.{ShowsSamples}
use Rattle.tiff_encode.specs.lemmas.ImageState.{one_part}
use Rattle.tiff_base.specs.lemmas.Slices.{ok_inj}
use Rattle.tiff_encode.proofs.Columns.{columns_plain, columns_packed}
use Rattle.tiff_encode.specs.lemmas.Shown.Color.{IsOf, first_of}

-- ---- one sample of a pixel

one_stored : (planar : PlanarConfiguration) → planar_or {A = ℕ} planar 1 1 ≡ 1
one_stored Chunky = refl
one_stored Planar = refl

first_only : (planar : PlanarConfiguration) → planar_or {A = ℕ} planar 0 0 ≡ 0
first_only Chunky = refl
first_only Planar = refl

one_shown : (planar : PlanarConfiguration) (depth : ℕ) → samples_in_chunk planar (Gray depth) ≡ 1
one_shown Chunky depth = refl
one_shown Planar depth = refl

-- a strip that begins at the left is as wide as the page
one_column : (k w : ℕ) → min w (w - k % 1 * w) ≡ w
one_column k w =
    let left : k % 1 ≡ 0 =
    omega (arith, mod_below k 1 (lit< tt)) in (λ t. min w (w - left t * w)) ∙ omega arith

-- ---- strips of gray samples without a predictor

module _ (h r : ℕ) (m : CompressionMethod) (f : SampleFormat) (planar : PlanarConfiguration)
    (subsampling : ℕ × ℕ)
    (offsets byte_counts : List ℕ) where
  -- the page of a width and a depth
  abbrev pub page : ℕ → ℕ → PageRecord
  page width depth = record {
    width = width;
    height = h;
    interpretation = BlackIsZero;
    method = m;
    samples = 1;
    extra = [];
    format = f;
    depth = depth;
    predictor = predictor.None;
    planar = planar;
    subsampling = subsampling;
    chunk_type = Strip;
    chunk_width = width;
    chunk_height = r;
    offsets = offsets;
    byte_counts = byte_counts;
  }

  pub gray_is : (width depth : ℕ) → color_of (page width depth) ≡ Ok (Gray depth)
  unfolding color_of
  gray_is width depth = refl

  -- a row is not longer than what is read of it
  row_alone : (width depth len : ℕ) → needed_of_row (page width depth) (Gray depth) len ≡ len
  row_alone width depth len =
      (λ t. cond (nat_lt (one_shown planar depth t) (one_stored planar t)) (stored_row_bytes (page width depth)) len)

  -- packed pixels, `w` of `d` bits, and their columns
  module _ (w d c : ℕ) (some : 0 < w) (few : d < 8) (filled : c ≡ (w * d + 7) / 8) (any : 0 < c) where
    -- the page of the columns, and that of the pixels
    abbrev p : PageRecord
    p = page c 8

    abbrev q : PageRecord
    q = page w d

    rows_same : stored_row_bytes q ≡ stored_row_bytes p
    rows_same =
        (λ t. (w * d * one_stored planar t + 7) / 8) ∙ omega (arith, filled)
        ∙ sym (λ t. (c * 8 * one_stored planar t + 7) / 8)

    pub row_is : row_bytes q (Gray d) w ≡ c
    unfolding row_bits
    row_is = (λ t. (w * d * one_shown planar d t + 7) / 8) ∙ omega (arith, filled)

    column_row_is : row_bytes p (Gray 8) c ≡ c
    unfolding row_bits
    column_row_is = (λ t. (c * 8 * one_shown planar 8 t + 7) / 8) ∙ omega arith

    across_same : across q ≡ across p
    across_same = one_part w w some (omega arith) ∙ sym (one_part c c any (omega arith))

    chunks_same : all_chunks q ≡ all_chunks p
    chunks_same = ap (λ n. n * parts h r * planes_of planar 1) across_same

    height_same : (k : ℕ) → (rect q k).height ≡ (rect p k).height
    unfolding rect
    height_same k = λ t. min r (h - k % (across_same t * parts h r) / across_same t * r)

    -- a strip is as wide as the page
    width_is : (k : ℕ) → (rect q k).width ≡ w
    unfolding rect
    width_is k =
        (λ t. min w (w - k % (one_part w w some (omega arith) t * parts h r) % one_part w w some (omega arith) t * w))
        ∙ one_column (k % (1 * parts h r)) w

    column_width_is : (k : ℕ) → (rect p k).width ≡ c
    unfolding rect
    column_width_is k =
        (λ t. min c (c - k % (one_part c c any (omega arith) t * parts h r) % one_part c c any (omega arith) t * c))
        ∙ one_column (k % (1 * parts h r)) c

    last_same : (k : ℕ) → needed_of_row q (Gray d) (row_bytes q (Gray d) (rect q k).width)
        ≡ needed_of_row p (Gray 8) (row_bytes p (Gray 8) (rect p k).width)
    last_same k =
        row_alone w d (row_bytes q (Gray d) (rect q k).width)
        ∙ ap (λ n. row_bytes q (Gray d) n) (width_is k) ∙ row_is
        ∙ sym (row_alone c 8 (row_bytes p (Gray 8) (rect p k).width)
        ∙ ap (λ n. row_bytes p (Gray 8) n) (column_width_is k) ∙ column_row_is)

    needed_same : (k : ℕ) → needed_bytes q (Gray d) k ≡ needed_bytes p (Gray 8) k
    needed_same k = λ t. (height_same k t - 1) * rows_same t + last_same k t

    module _ (file : List ℕ) where
      short_same : (k : ℕ) → is_short file LittleEndian q (Gray d) k
          ≡ is_short file LittleEndian p (Gray 8) k
      short_same k = ap (λ n. nat_lt (length (chunk_data file LittleEndian p k)) n) (needed_same k)

      stored_same : (k row : ℕ) → stored_row file LittleEndian q k row
          ≡ stored_row file LittleEndian p k row
      stored_same k row =
          λ t. bytes_at (chunk_data file LittleEndian p k) (row * rows_same t) (rows_same t)

      -- the byte of packed pixels is the sample of its column
      byte_is : (x y : ℕ) → packed_byte file LittleEndian q (Gray d) (image_region q)
          (planar_or planar 0 0) y x
          ≡ shown_sample file LittleEndian p x y 0
      unfolding shown_sample
      byte_is x y =
          let plane : ℕ = planar_or planar 0 0 in
          let k : ℕ = chunk_of_pixel p plane x y in
          let first : 0 / w ≡ 0 = div-eq_of_lt some in
          let top : 0 + y ≡ y = omega arith in
          let beside : 0 + x / c ≡ x / c = omega arith in
          let here : plane * chunks_of_plane q
          + ((0 + y) / r * across q + (0 / w + x / row_bytes q (Gray d) w)) ≡ k =
          (λ t. plane * (across_same t * parts h r)
          + (top t / r * across_same t + (first t + x / row_is t)))
          ∙ ap (λ n. plane * chunks_of_plane p + (y / r * across p + n)) beside in
          let only : x % c ≡ x % c * planar_or planar 1 1 + plane =
          sym ((λ t. x % c * one_stored planar t + first_only planar t) ∙ omega arith) in
          (λ t. slice_index (stored_same (here t) (top t % r) t) (x % row_is t))
          ∙ ap (λ n. slice_index (stored_row file LittleEndian p k (y % r)) n) only
          ∙ sym (one_number (stored_row file LittleEndian p k (y % r)) (x % c * planar_or planar 1 1
          + plane))

      -- a page of packed pixels shows what the page of its columns shows
      pub packed_shown : (sample_at : ℕ → ℕ → ℕ → ℕ)
          → ((k : ℕ) → k < all_chunks p → is_short file LittleEndian p (Gray 8) k ≡ false)
          → ((x y : ℕ) → x < c → y < h → shown_sample file LittleEndian p x y 0 ≡ sample_at x y 0)
          → ShowsSamples file q sample_at
      packed_shown sample_at whole shows = record {
        color = Gray d;
        is_color = gray_is w d;
        whole = λ k b. short_same k ∙ whole k (subst (λ n. k < n) chunks_same b);
        shows = λ x y sample xl yl sl.
            let narrow : nat_lt d 8 ≡ true = lt-ltb d 8 few in
            let none : 0 ≡ sample = omega (arith, sl) in
            let P : Bool → Type 0 = λ b. x < cond b (row_bytes q (Gray d) w) w
            → cond b (packed_byte file LittleEndian q (Gray d) (image_region q) (planar_or planar 0 0) y x) (shown_sample file LittleEndian q x y 0)
            ≡ sample_at x y 0 in
            let Q : ℕ → Type 0 = λ n. shown_at file q (Gray d) x y n ≡ sample_at x y n in
            subst Q none (subst P (sym narrow) (λ l. byte_is x y
            ∙ shows x y (subst (λ n. x < n) row_is l) yl) xl);
      }

-- ---- the pages of an image

module _ (i : OpenImage) (o : IsOf i.color i.size) (wide : IsSide i.width)
    (form : IsForm i.width i.form) (h : HoldsPixels i) where
  bits_are : first_bits i.color ≡ o.depth
  bits_are = ap (λ (l : List ℕ). get_or l 0 0) o.bits ∙ first_of o.family o.depth 0

  -- samples of whole bytes
  module _ (n : is_packed i.color ≡ false) where
    pub plain_depth : first_bits i.color ≡ 8 * i.size
    plain_depth = elim o.is_deep [
      | inl e ↦ bits_are ∙ e
      | inr t ↦ absurd (omega (arith, ltb-false (first_bits i.color) 8 n, bits_are, t.1.1.1))
    ]

    plain_across : (c : ChunkType) → i.form.chunk_type ≡ c
        → pixels_across c i.pixels i.form.chunk_width ≡ i.form.chunk_width
    plain_across Strip e = sym (columns_plain i h n) ∙ sym (form.strips e)
    plain_across Tile e = refl

    -- the reader finds the page of the columns
    pub plain_page : shown_page i ≡ image_page i
    plain_page = λ t. record (image_page i) {
      width = sym (columns_plain i h n) t;
      depth = plain_depth t;
      chunk_width = plain_across i.form.chunk_type refl t;
    }

  -- packed pixels
  module _ (y : is_packed i.color ≡ true) where
    pub packed_as : (o.family ≡ family.Gray) × ((i.size ≡ 1) × ((0 < o.depth) × (o.depth < 8)))
    packed_as = elim o.is_deep [
      | inl e ↦ absurd (omega (arith, ltb-true (first_bits i.color) 8 y, bits_are, e, some_size i.size o.is_size))
      | inr t ↦ t
    ]

    pub one_sample : all_samples i ≡ 1
    one_sample =
        let many : length i.color.bits ≡ 1 =
        ap (λ xs. length xs) o.bits ∙ length-replicate (count_of o.family) o.depth
        ∙ ap count_of packed_as.0 in
        let none : length i.extra ≡ 0 = ap (λ xs. length xs) (h.plain y).1.0 in
        omega (arith, many, none)

    -- the page of a width and a depth
    abbrev strips : List ℕ → List ℕ → ℕ → ℕ → PageRecord
    strips offsets byte_counts =
        page i.height i.form.chunk_height (compression_method i.compression)
        (get_or i.color.formats 0 Void) i.form.planar
        (subsampling_of i.color.interpretation) offsets byte_counts

    columns_page : image_page i ≡ strips (image_page i).offsets (image_page i).byte_counts i.width 8
    columns_page = λ t. record (image_page i) {
      interpretation = (o.interpretation ∙ ap meaning_of packed_as.0) t;
      samples = one_sample t;
      extra = (h.plain y).1.0 t;
      depth = 8 * packed_as.1.0 t;
      predictor = (h.plain y).1.1 t;
      chunk_type = (h.plain y).0 t;
      chunk_width = form.strips (h.plain y).0 t;
    }

    pixels_page : (offsets byte_counts : List ℕ)
        → record (shown_page i) { offsets = offsets; byte_counts = byte_counts }
        ≡ strips offsets byte_counts i.pixels (first_bits i.color)
    pixels_page offsets byte_counts = λ t. record (shown_page i) {
      interpretation = (o.interpretation ∙ ap meaning_of packed_as.0) t;
      samples = one_sample t;
      extra = (h.plain y).1.0 t;
      predictor = (h.plain y).1.1 t;
      chunk_type = (h.plain y).0 t;
      chunk_width = pixels_across ((h.plain y).0 t) i.pixels i.form.chunk_width;
      offsets = offsets;
      byte_counts = byte_counts;
    }

    narrow : first_bits i.color < 8
    narrow = ltb-true (first_bits i.color) 8 y

    pub pixels_shown : (file : List ℕ) (color : ColorType) (sample_at : ℕ → ℕ → ℕ → ℕ)
        → color_of (image_page i) ≡ Ok color
        → ((k : ℕ) → k < all_chunks (image_page i)
        → is_short file LittleEndian (image_page i) color k ≡ false)
        → ((x y sample : ℕ) → x < i.width → y < i.height → sample < num_samples color
        → shown_sample file LittleEndian (image_page i) x y sample ≡ sample_at x y sample)
        → ShowsSamples file (shown_page i) sample_at
    pixels_shown file color sample_at is_color whole shows =
        let offsets : List ℕ = (image_page i).offsets in
        let byte_counts : List ℕ = (image_page i).byte_counts in
        let d : ℕ = first_bits i.color in
        let gray : (width depth : ℕ) → color_of (strips offsets byte_counts width depth)
        ≡ Ok (Gray depth) =
        gray_is i.height i.form.chunk_height (compression_method i.compression)
        (get_or i.color.formats 0 Void) i.form.planar
        (subsampling_of i.color.interpretation) offsets byte_counts in
        let same : color ≡ Gray 8 =
        ok_inj color (Gray 8) (sym is_color ∙ ap color_of columns_page ∙ gray i.width 8) in
        let W : PageRecord → ColorType → Type 0 =
        λ p c. (k : ℕ) → k < all_chunks p → is_short file LittleEndian p c k ≡ false in
        let S : PageRecord → ColorType → Type 0 =
        λ p c. (x y : ℕ) → x < i.width → y < i.height → 0 < num_samples c
        → shown_sample file LittleEndian p x y 0 ≡ sample_at x y 0 in
        let whole_there : W (strips offsets byte_counts i.width 8) (Gray 8) =
        subst (λ p. W p (Gray 8)) columns_page (subst (W (image_page i)) same whole) in
        let shown_there : S (strips offsets byte_counts i.width 8) (Gray 8) =
        subst (λ p. S p (Gray 8)) columns_page (subst (S (image_page i)) same (λ x y xl yl sl. shows x y 0 xl yl sl)) in
        subst (λ p. ShowsSamples file p sample_at) (sym (pixels_page offsets byte_counts))
        (packed_shown i.height i.form.chunk_height (compression_method i.compression) (get_or i.color.formats 0 Void) i.form.planar
        (subsampling_of i.color.interpretation) offsets byte_counts i.pixels d i.width h.some.0 narrow (columns_packed i h y) wide.0 file sample_at
        whole_there (λ x y xl yl. shown_there x y xl yl (omega arith)))

    -- a page of the image is gray
    pub packed_color : (p : PageRecord) (color : ColorType)
        → p ≡ record (shown_page i) { offsets = p.offsets; byte_counts = p.byte_counts }
        → color_of p ≡ Ok color → color ≡ Gray (first_bits i.color)
    packed_color p color is is_color =
        ok_inj color (Gray (first_bits i.color)) (sym is_color
        ∙ ap color_of (is ∙ pixels_page p.offsets p.byte_counts)
        ∙ gray_is i.height i.form.chunk_height (compression_method i.compression)
        (get_or i.color.formats 0 Void) i.form.planar
        (subsampling_of i.color.interpretation) p.offsets p.byte_counts i.pixels (first_bits i.color))

    packed_columns : (p : PageRecord) (color : ColorType)
        → p ≡ record (shown_page i) { offsets = p.offsets; byte_counts = p.byte_counts }
        → color_of p ≡ Ok color → shown_columns p color ≡ i.width
    packed_columns p color is is_color =
        let d : ℕ = first_bits i.color in
        let there : p ≡ strips p.offsets p.byte_counts i.pixels d =
        is ∙ pixels_page p.offsets p.byte_counts in
        let same : color ≡ Gray d = packed_color p color is is_color in
        let row : row_bytes (strips p.offsets p.byte_counts i.pixels d) (Gray d) i.pixels
        ≡ i.width =
        row_is i.height i.form.chunk_height (compression_method i.compression)
        (get_or i.color.formats 0 Void) i.form.planar
        (subsampling_of i.color.interpretation) p.offsets p.byte_counts i.pixels d i.width h.some.0 narrow (columns_packed i h y) wide.0 in
        (λ t. shown_columns (there t) (same t))
        ∙ ap (λ b. cond b (row_bytes (strips p.offsets p.byte_counts i.pixels d) (Gray d) i.pixels) i.pixels) y
        ∙ row

  plain_columns : is_packed i.color ≡ false → (p : PageRecord) (color : ColorType)
      → p ≡ record (shown_page i) { offsets = p.offsets; byte_counts = p.byte_counts }
      → shown_columns p color ≡ i.width
  plain_columns n p color is =
      let depth : p.depth ≡ 8 * i.size = ap (λ (q : PageRecord). q.depth) is ∙ plain_depth n in
      let deep : nat_lt p.depth 8 ≡ false =
      le-ltb p.depth 8 (omega (arith, depth, some_size i.size o.is_size)) in
      ap (λ b. cond b (row_bytes p color p.width) p.width) deep
      ∙ ap (λ (q : PageRecord). q.width) is ∙ sym (columns_plain i h n)

  -- the reader outputs the columns of an image
  pub columns_shown : (p : PageRecord) (color : ColorType)
      → p ≡ record (shown_page i) { offsets = p.offsets; byte_counts = p.byte_counts }
      → color_of p ≡ Ok color → shown_columns p color ≡ i.width
  columns_shown p color is is_color =
      let P : Bool → Type 0 = λ b. is_packed i.color ≡ b → shown_columns p color ≡ i.width in
      elim (is_packed i.color) as P [
        | true ↦ λ y. packed_columns y p color is is_color
        | false ↦ λ n. plain_columns n p color is
      ] refl
