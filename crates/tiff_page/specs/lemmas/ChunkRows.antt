-- The bytes of a row of a chunk, from its stored bytes.
use Rattle.std.proofs.Common.{◌≡◌, ℕ, ◌+◌, ◌-◌, ◌*◌, ◌/◌, ◌%◌, ◌^◌, ◌<◌, ◌≤◌, min, true, false, Bool, List, drop, refl, ap, sym, ◌∙◌, ⊎_elim, arith, ◌⊎◌, ◌++◌, take, length, inl, inr, [], drop-drop, length-drop, Some}
use Rattle.std.specs.Prelude.{nat_lt, slice_index, ◌||◌}
use Rattle.std.proofs.lemmas.Bool.{cases_Bool, cases_lt, lt-ltb, le-ltb, ltb-false}
use Rattle.std.proofs.lemmas.List.{get_or-take, length-append, drop_all, drop-append-le}
use Rattle.std.proofs.lemmas.Nat.{div-mul-add, mod-mul-add, mod_below, div_below, div-add-mod'}
use Rattle.std.proofs.Math.Nat.{mod-eq_of_lt, mul_comm, mul-le-mul_left, mul-le-mul_right, mul-div_cancel, div-eq_of_lt, mul_assoc, mul-add-div_right, mul-add-mod_self_right}
use Rattle.tiff_base.specs.declared.color.ColorType.{ColorType}
use Rattle.tiff_base.specs.declared.tags.ByteOrder.{ByteOrder}
use Rattle.tiff_base.specs.declared.tags.PlanarConfiguration.{PlanarConfiguration}
use Rattle.tiff_base.specs.declared.tags.PlanarConfiguration.TheVariants.{Chunky, Planar}
use Rattle.tiff_base.specs.declared.tags.Predictor.{Predictor}
use Rattle.tiff_base.specs.declared.tags.Predictor.TheVariants as predictor
use Rattle.tiff_base.specs.SourceAndSink.{bytes_at}
use Rattle.tiff_page.specs.Page.{PageRecord}
use Rattle.tiff_page.specs.Counts.{all_chunks, planes_of}
use Rattle.tiff_page.specs.Rect.{rect, across, chunks_of_plane}
use Rattle.tiff_page.specs.Layout.{row_bits, row_bytes, samples_in_chunk}
use Rattle.tiff_page.specs.Pixels.{planar_or, stored_samples, stored_row_bytes, chunk_data, stored_row, is_byte_plane, needs_whole_rows, needed_of_row, shown_number, number_by, number_of_row, packed_byte, number_byte, chunk_region, shown_sample, region_byte, image_region}
use Rattle.tiff_page.specs.Laws.{HasSides, HasWholeRows}
use Rattle.tiff_page.specs.OutputRow.{StoresAllShown, RowHanded, handed_number, handed_byte}
use Rattle.tiff_page.specs.lemmas.Rows.{number_same, sums_same, joins_same}
use Rattle.std.proofs.Math.Seq.{take-append_seam}
use Rattle.tiff_base.specs.declared.error.TiffError.{TiffError}
use Rattle.tiff_base.specs.Answers.{IsCause}
use Rattle.tiff_base.specs.lemmas.Causes.{cause_along}
use Rattle.tiff_page.specs.RowReads.{TakesRow}
use Rattle.tiff_page.specs.ChunkData.{IsTooShort}
use Rattle.tiff_base.specs.Runs.{Unpacked, with_front}
use Rattle.tiff_ifd.specs.Unpacking.{left_at, unpacked_at}
use Rattle.tiff_ifd.specs.declared.packbits.PackBitsCursor.{PackBitsCursor}
use Rattle.tiff_page.specs.Laws as law
use Rattle.tiff_page.specs.lemmas.PositionLaws.{parts_some}
use Rattle.tiff_page.specs.lemmas.Planes.{from_0}

-- a multiple of bits in whole bytes
pub start_is : (col w d s : ℕ) → w * d * s ≡ w * d * s / 8 * 8
    → col * w * d * s / 8 ≡ col * ((w * d * s + 7) / 8)
start_is col w d s e =
    let c : (w * d * s + 7) / 8 ≡ w * d * s / 8 = omega (arith, e) in
    omega (arith, (ap (λ z. z * s) (mul_assoc col w d) ∙ mul_assoc col (w * d) s), (ap (λ z. col * z) e ∙ sym (mul_assoc col (w * d * s / 8) 8)), ap (λ z. col * z) c)

pub none_before : (w d s c : ℕ) → 0 * w * d * s / 8 ≡ 0 * c
none_before w d s c = omega arith

-- fewer columns have no more bytes
pub fewer_bytes : (v w d s : ℕ) → v ≤ w → (v * d * s + 7) / 8 ≤ (w * d * s + 7) / 8
fewer_bytes v w d s h =
    omega (arith, mul-le-mul_right s (mul-le-mul_right d h))

-- a multiple of numbers of n bytes
pub numbers_before : (x d n s : ℕ) → d ≡ n * 8 → x * d * s / 8 ≡ x * s * n
numbers_before x d n s e =
    let j : x * (s * n) ≡ x * s * n = sym (mul_assoc x s n) in
    omega (arith, ap (λ z. x * z * s) e, ap (λ z. z * s) (sym (mul_assoc x n 8)), mul_assoc (x * n) 8 s, ap (λ z. x * n * z) (mul_comm 8 s), sym (mul_assoc (x * n) s 8), mul_assoc x n s, ap (λ z. x * z) (mul_comm n s), j)

pub no_samples : (v d s : ℕ) → s ≡ 0 → (v * d * s + 7) / 8 ≡ 0
no_samples v d s e =
    omega (arith, ap (λ z. v * d * z) e)

pub samples_some : (v d s k : ℕ) → k < (v * d * s + 7) / 8 → 0 < s
samples_some v d s k h =
    ⊎_elim (λ (l : 0 < s). l) (λ (z : s ≤ 0). let e : (v * d * s + 7) / 8
    ≡ 0 = no_samples v d s (omega (arith, z)) in Prim.absurd (omega (arith, h, e))) (cases_lt 0 s)

module _ (file : List ℕ) (order : ByteOrder) (p : PageRecord) (color : ColorType) (i row k : ℕ)
    (sides : HasSides p) (whole : HasWholeRows p color) where
  abbrev pub many : ℕ
  many = across p

  abbrev pub at_in : ℕ
  at_in = i % chunks_of_plane p

  abbrev pub column : ℕ
  column = at_in % many

  abbrev pub line : ℕ
  line = at_in / many

  abbrev pub first : ℕ
  first = i / chunks_of_plane p * chunks_of_plane p

  abbrev pub c : ℕ
  c = row_bytes p color p.chunk_width

  abbrev pub start : ℕ
  start = row_bits p color (column * p.chunk_width) / 8

  pub across_some : 0 < many
  across_some = parts_some p.width p.chunk_width sides.chunk_wide sides.wide

  pub start_at : start ≡ column * c
  unfolding row_bits
  start_at =
      ⊎_elim
      (λ (one : many ≤ 1).
      let z : column ≡ 0 = omega (arith, mod_below at_in many across_some, one) in
      ap (λ n. n * p.chunk_width * p.depth * samples_in_chunk p.planar color / 8) z
      ∙ none_before p.chunk_width p.depth (samples_in_chunk p.planar color) c
      ∙ ap (λ n. n * c) (sym z))
      (λ (e : row_bits p color p.chunk_width ≡ row_bits p color p.chunk_width / 8 * 8). start_is column p.chunk_width p.depth (samples_in_chunk p.planar color) e)
      whole.rows

  module _ (rl : row < min p.chunk_height (p.height - line * p.chunk_height))
      (kl : k < row_bytes p color (min p.chunk_width (p.width - column * p.chunk_width))) where
    pub in_chunk : k < c
    unfolding row_bits
    in_chunk =
        let f : row_bytes p color (min p.chunk_width (p.width - column * p.chunk_width)) ≤ c =
        fewer_bytes (min p.chunk_width (p.width - column * p.chunk_width)) p.chunk_width p.depth
        (samples_in_chunk p.planar color) (omega arith) in
        omega (arith, f, kl)

    pub in_rows : row < p.chunk_height
    in_rows = omega (arith, rl)

    pub packed_same : packed_byte file order p color (image_region p) (i / chunks_of_plane p)
        (line * p.chunk_height + row) (start + k)
        ≡ packed_byte file order p color (chunk_region p i) (i / chunks_of_plane p) row k
    unfolding rect
    packed_same =
        let up : (0 + (line * p.chunk_height + row)) / p.chunk_height ≡ line =
        ap (λ z. z / p.chunk_height) (from_0 (line * p.chunk_height + row))
        ∙ div-mul-add line p.chunk_height row in_rows in
        let down : (0 + (line * p.chunk_height + row)) % p.chunk_height ≡ row =
        ap (λ z. z % p.chunk_height) (from_0 (line * p.chunk_height + row))
        ∙ mod-mul-add line p.chunk_height row in_rows in
        let h : 0 / p.chunk_width + (start + k) / c ≡ column =
        omega (arith, (ap (λ z. (z + k) / c) start_at ∙ div-mul-add column c k in_chunk), div-eq_of_lt sides.chunk_wide) in
        (λ t. shown_number p.interpretation 256 (slice_index (stored_row file order p (first + (up t * many + h t)) (down t)) ((ap (λ z. (z + k) % c) start_at ∙ mod-mul-add column c k in_chunk) t)))
        ∙ (λ t. shown_number p.interpretation 256 (slice_index (stored_row file order p (first + (div-add-mod' at_in many) t) row) k))
        ∙ (λ t. shown_number p.interpretation 256 (slice_index (stored_row file order p (first + at_in) (sym (mod-mul-add line p.chunk_height row in_rows) t)) (sym (mod-eq_of_lt in_chunk) t)))

    pub number_placed : 8 ≤ p.depth → p.depth ≡ p.depth / 8 * 8
        → number_byte file order p color (image_region p) (i / chunks_of_plane p)
        (line * p.chunk_height + row) (start + k)
        ≡ number_byte file order p color (chunk_region p i) (i / chunks_of_plane p) row k
    unfolding rect row_bits
    number_placed big e =
        let s : ℕ = samples_in_chunk p.planar color in
        let size : ℕ = p.depth / 8 in
        let x : ℕ = column * p.chunk_width in
        let sz : 0 < size = omega (arith, big) in
        let b : start ≡ x * s * size = numbers_before x p.depth size s e in
        let d : (start + k) / size ≡ x * s + k / size =
        ap (λ z. (z + k) / size) b ∙ mul-add-div_right sz (x * s) k in
        let g : (start + k) / size % s ≡ k / size % s =
        ap (λ z. z % s) d ∙ mul-add-mod_self_right x s (k / size) in
        let h : 0 + (start + k) / size / s ≡ x + k / size / s =
        from_0 ((start + k) / size / s)
        ∙ (ap (λ z. z / s) d ∙ mul-add-div_right (samples_some (min p.chunk_width (p.width - x)) p.depth s k kl) x (k / size)) in
        λ t. shown_sample file order p (h t) ((from_0 (line * p.chunk_height
        + row)) t) (planar_or p.planar (i / chunks_of_plane p) (g t)) / 256 ^ (ap (λ z. (z
        + k) % size) b ∙ mul-add-mod_self_right (x * s) size k) t % 256

    pub byte_same : region_byte file order p color (image_region p) (i / chunks_of_plane p)
        (line * p.chunk_height + row) (start + k)
        ≡ region_byte file order p color (chunk_region p i) (i / chunks_of_plane p) row k
    byte_same =
        ⊎_elim
        (λ (l : p.depth < 8). let t : nat_lt p.depth 8
        ≡ true = lt-ltb p.depth 8 l in rw t packed_same)
        (λ (g : 8 ≤ p.depth).
        ⊎_elim
        (λ (l : p.depth < 8). Prim.absurd (omega (arith, l, g)))
        (λ (e : p.depth ≡ p.depth / 8 * 8). rw (le-ltb p.depth 8 g) (number_placed g e))
        whole.depth)
        (cases_lt p.depth 8)

pub image_of_chunks : law.ImageOfChunks
unfolding rect
image_of_chunks file order p color i row k sides whole rl kl =
    byte_same file order p color i row k sides whole rl kl

pub unit_of_chunks : law.UnitOfChunks
unfolding rect
unit_of_chunks file order p color unit plane row k l =
    ap
    (λ (j : ℕ).
    region_byte file order p color (record {
      x = j % across p * p.chunk_width;
      y = j / across p * p.chunk_height;
      width = min p.chunk_width (p.width - j % across p * p.chunk_width);
      height = min p.chunk_height (p.height - j / across p * p.chunk_height);
      plane = 0;
      chunk = Some j;
    }) plane row k)
    ((mod-eq_of_lt l) ∙ sym (mod-mul-add plane (chunks_of_plane p) unit l))

pub unpacked_out : (bytes : List ℕ) (position : PackBitsCursor) (at len : ℕ)
    → left_at bytes position ≡ unpacked_at bytes at len
    → (left_at bytes position).out ≡ (unpacked_at bytes at len).out
unpacked_out bytes position at len e = ap (λ (u : Unpacked). u.out) e

-- there is nothing after the last byte of a source
pub passed_end : (bytes : List ℕ) (at n : ℕ) → length bytes < 2 ^ 64 → 2 ^ 64 ≤ at + n
    → [] ≡ drop n (drop at bytes)
passed_end bytes at n l h =
    sym (drop_all n (drop at bytes) (omega (arith, length-drop at bytes, l, h)))

-- the bytes after a front
pub behind_front : (front rest : List ℕ) (k : ℕ) → length front ≡ k → rest ≡ drop k (front ++ rest)
behind_front front rest k e =
    sym (drop-append-le k front rest (omega (arith, e))
    ∙ ap (λ (z : List ℕ). z ++ rest) (drop_all k front (omega (arith, e))))

-- some more bytes are skipped
pub more_passed : (first mid last : Unpacked) (piece : List ℕ) (n left k : ℕ) → left ≤ n → k ≤ left
    → length piece ≡ k
    → mid.out ≡ drop (n - left) first.out → mid ≡ with_front piece last
    → last.out ≡ drop (n - (left - k)) first.out
more_passed first mid last piece n left k h l e a b =
    behind_front piece last.out k e
    ∙ ap (drop k) (sym (ap (λ (u : Unpacked). u.out) b) ∙ a)
    ∙ drop-drop k (n - left) first.out
    ∙ ap (λ (z : ℕ). drop z first.out) (omega (arith, h, l))

-- bytes of whole numbers
pub bits_are : (w d n s : ℕ) → d ≡ n * 8 → (w * d * s + 7) / 8 ≡ w * s * n
bits_are w d n s e =
    let b : w * (n * 8) * s ≡ w * s * n * 8 = omega arith in
    omega (arith, ap (λ z. w * z * s) e, b)

-- the output samples of a pixel are among those of its column
pub number_in_row : (n s t w : ℕ) → 0 < s → s ≤ t → n < w * s → n / s * t + n % s + 1 ≤ w * t
number_in_row n s t w h l b =
    let k : (n / s + 1) * t ≤ w * t = mul-le-mul_right t (omega (arith, div_below n s w h b)) in
    let e : (n / s + 1) * t ≡ n / s * t + t = omega arith in
    omega (arith, k, e, mod_below n s h, l)

pub none_dropped : (b : Bool) (s t : ℕ) → (b || nat_lt s t) ≡ false → t ≤ s
none_dropped true s t h = cc
none_dropped false s t h = ltb-false s t h

-- the plane and the sample from which a sample of a region is read
pub plane_for : (planar : PlanarConfiguration) (plane chunks j k m : ℕ) → plane * chunks + j ≡ k
    → (planar ≡ Chunky → j ≡ k)
    → planar_or planar (planar_or planar plane m) 0 * chunks + j ≡ k
plane_for Planar plane chunks j k m h c = h
plane_for Chunky plane chunks j k m h c = let e : j ≡ k = c refl in omega (arith, e)

pub sample_for : (planar : PlanarConfiguration) (plane m : ℕ) (color : ColorType)
    → planar_or planar 0 (planar_or planar plane (m % samples_in_chunk planar color))
    ≡ m % samples_in_chunk planar color
sample_for Planar plane m color = omega arith
sample_for Chunky plane m color = refl

pub first_planes : (planar : PlanarConfiguration) (k chunks samples : ℕ)
    → k < chunks * planes_of planar samples → planar ≡ Chunky → k < chunks
first_planes Chunky k chunks samples h e = omega (arith, h)
first_planes Planar k chunks samples h e = cc

module _ (file : List ℕ) (order : ByteOrder) (p : PageRecord) (color : ColorType) (k r b : ℕ)
    (sides : HasSides p) (stored : StoresAllShown p color) (listed : k < all_chunks p)
    (rl : r < (rect p k).height) (bl : b < row_bytes p color (rect p k).width) where
  abbrev pub a : ℕ
  a = across p

  abbrev pub j : ℕ
  j = k % chunks_of_plane p

  abbrev pub cx : ℕ
  cx = j % a

  abbrev pub cy : ℕ
  cy = j / a

  abbrev pub s : ℕ
  s = samples_in_chunk p.planar color

  abbrev pub t : ℕ
  t = stored_samples p

  abbrev pub size : ℕ
  size = p.depth / 8

  abbrev pub need : ℕ
  need = needed_of_row p color (row_bytes p color (rect p k).width)

  -- the row, and what is read of it
  abbrev pub all : List ℕ
  all = stored_row file order p k r

  abbrev pub row : List ℕ
  row = bytes_at (chunk_data file order p k) (r * stored_row_bytes p) need

  pub x_is : (rect p k).x ≡ cx * p.chunk_width
  unfolding rect
  x_is = refl

  pub y_is : (rect p k).y ≡ cy * p.chunk_height
  unfolding rect
  y_is = refl

  pub plane_is : (rect p k).plane ≡ k / chunks_of_plane p
  unfolding rect
  plane_is = refl

  pub row_below : r < p.chunk_height
  unfolding rect
  row_below =
      let h : r < min p.chunk_height (p.height - cy * p.chunk_height) = rl in omega (arith, h)

  pub width_below : (rect p k).width ≤ p.chunk_width
  unfolding rect
  width_below = omega arith

  pub whole_index : k / chunks_of_plane p * chunks_of_plane p + j ≡ k
  whole_index = div-add-mod' k (chunks_of_plane p)

  pub stored_more : row_bytes p color (rect p k).width ≤ stored_row_bytes p
  unfolding row_bits
  stored_more =
      omega (arith, mul-le-mul_right s (mul-le-mul_right p.depth width_below), mul-le-mul_left (p.chunk_width * p.depth) stored.stores)

  pub width_bytes : row_bytes p color (rect p k).width ≤ row_bytes p color p.chunk_width
  unfolding row_bits
  width_bytes = fewer_bytes (rect p k).width p.chunk_width p.depth s width_below

  pub needed_more : row_bytes p color (rect p k).width ≤ need
  needed_more =
      ⊎_elim
      (λ (e : needs_whole_rows p color ≡ true). rw e stored_more)
      (λ (e : needs_whole_rows p color ≡ false). rw e (omega arith))
      (cases_Bool (needs_whole_rows p color))

  pub need_within : need ≤ stored_row_bytes p
  need_within =
      ⊎_elim
      (λ (e : needs_whole_rows p color ≡ true). rw e (omega arith))
      (λ (e : needs_whole_rows p color ≡ false). rw e stored_more)
      (cases_Bool (needs_whole_rows p color))

  -- the bytes that are read contain each byte of the row below the needed ones
  pub byte_of_row : (q : ℕ) → q < need → slice_index all q ≡ slice_index row q
  byte_of_row q l =
      let left : List ℕ = drop (r * stored_row_bytes p) (chunk_data file order p k) in
      get_or-take (stored_row_bytes p) left q 0 (omega (arith, l, need_within))
      ∙ sym (get_or-take need left q 0 l)

  -- ---- depths below 8

  pub packed : packed_byte file order p color (chunk_region p k) (k / chunks_of_plane p) r b
      ≡ shown_number p.interpretation 256 (slice_index row b)
  unfolding rect
  packed =
      let byte : b % row_bytes p color p.chunk_width ≡ b =
      mod-eq_of_lt (omega (arith, bl, width_bytes)) in
      (λ z. shown_number p.interpretation 256 (slice_index (stored_row file order p ((whole_index) z) ((mod-mul-add cy p.chunk_height r row_below) z)) (byte z)))
      ∙ ap (shown_number p.interpretation 256) (byte_of_row b (omega (arith, bl, needed_more)))

  -- ---- depths of whole bytes

  pub chunky_index : p.planar ≡ Chunky → j ≡ k
  chunky_index e = mod-eq_of_lt (first_planes p.planar k (chunks_of_plane p) p.samples listed e)

  module _ (whole : p.depth ≡ size * 8) where
    abbrev pub n : ℕ
    n = b / size

    abbrev pub col : ℕ
    col = n / s

    abbrev pub sample : ℕ
    sample = n % s

    pub bytes_shown : row_bytes p color (rect p k).width ≡ (rect p k).width * s * size
    unfolding row_bits
    bytes_shown = bits_are (rect p k).width p.depth size s whole

    pub bytes_stored : stored_row_bytes p ≡ p.chunk_width * t * size
    bytes_stored = bits_are p.chunk_width p.depth size t whole

    pub some_size : 0 < size
    some_size =
        ⊎_elim (λ (g : 0 < size). g)
        (λ (z : size ≤ 0).
        let q : size ≡ 0 = omega (arith, z) in
        Prim.absurd (omega (arith, bl, bytes_shown, ap (λ m. (rect p k).width * s * m) q)))
        (cases_lt 0 size)

    pub number_below : n < (rect p k).width * s
    number_below =
        let e =
        bytes_shown in div_below b size ((rect p k).width * s) some_size (omega (arith, bl, e))

    pub column_below : col < (rect p k).width
    column_below = div_below n s (rect p k).width stored.shows number_below

    -- the numbers of the output columns are among the bytes that are read
    pub samples_needed : (rect p k).width * t * size ≤ need
    samples_needed =
        ⊎_elim
        (λ (h : needs_whole_rows p color ≡ true).
        rw h (omega (arith, mul-le-mul_right size (mul-le-mul_right t width_below), bytes_stored)))
        (λ (h : needs_whole_rows p color ≡ false).
        rw h (omega (arith, mul-le-mul_right size (mul-le-mul_left (rect p k).width (none_dropped (is_byte_plane p.predictor) s t h)), bytes_shown)))
        (cases_Bool (needs_whole_rows p color))

    pub in_its_row : col * t + sample + 1 ≤ (rect p k).width * t
    in_its_row = number_in_row n s t (rect p k).width stored.shows stored.stores number_below

    pub number_needed : (col * t + sample + 1) * size ≤ need
    number_needed =
        omega (arith, mul-le-mul_right size in_its_row, samples_needed)

    -- the output columns have the same numbers
    pub number_is : (pr : Predictor) → pr ≡ p.predictor
        → number_by pr order p all (col * t + sample) ≡ number_by pr order p row (col * t + sample)
    number_is predictor.None e =
        number_same order size all row (col * t + sample) (λ i u v. byte_of_row i (omega (arith, v, number_needed)))
    number_is predictor.Horizontal e =
        sums_same order order size t all row (col * t + sample) need
        (λ m h. number_same order size all row m (λ i u v. byte_of_row i (omega (arith, v, h)))) number_needed
    number_is predictor.FloatingPoint e =
        let y : need ≡ stored_row_bytes p = rw (ap is_byte_plane (sym e)) refl in
        joins_same size t (p.chunk_width * t) all row (col * t
        + sample) need byte_of_row (omega (arith, in_its_row, mul-le-mul_right t width_below))
        (omega (arith, y, mul_comm size (p.chunk_width * t), bytes_stored))

    pub handed : number_byte file order p color (chunk_region p k) (k / chunks_of_plane p) r b
        ≡ handed_number order p row color n / 256 ^ (b % size) % 256
    unfolding rect shown_sample
    handed =
        let line : (cy * p.chunk_height + r) % p.chunk_height ≡ r =
        mod-mul-add cy p.chunk_height r row_below in
        let row_at : (cy * p.chunk_height + r) / p.chunk_height ≡ cy =
        div-mul-add cy p.chunk_height r row_below in
        let cl : col < p.chunk_width = omega (arith, column_below, width_below) in
        let column : (cx * p.chunk_width + col) % p.chunk_width ≡ col =
        mod-mul-add cx p.chunk_width col cl in
        let column_at : (cx * p.chunk_width + col) / p.chunk_width ≡ cx =
        div-mul-add cx p.chunk_width col cl in
        let plane : ℕ = planar_or p.planar (planar_or p.planar (k / chunks_of_plane p) sample) 0 in
        let shows : ℕ → ℕ =
        λ v. shown_number p.interpretation (2 ^ p.depth) v / 256 ^ (b % size) % 256 in
        (λ z.
        shows (number_of_row order p (stored_row file order p (plane * chunks_of_plane p + (row_at z * a + column_at z)) (line z)) (column z * t + sample_for p.planar (k / chunks_of_plane p) n color z)))
        ∙ (λ z. shows (number_of_row order p (stored_row file order p (plane * chunks_of_plane p + (div-add-mod' j a) z) r) (col * t + sample)))
        ∙ (λ z. shows (number_of_row order p (stored_row file order p ((plane_for p.planar (k / chunks_of_plane p) (chunks_of_plane p) j k sample whole_index chunky_index) z) r) (col * t + sample)))
        ∙ ap shows (number_is p.predictor refl)

pub row_handed : RowHanded
unfolding rect
row_handed file order p color k r b sides stored listed rl bl =
    ⊎_elim
    (λ (l : p.depth < 8). let e : nat_lt p.depth 8
    ≡ true = lt-ltb p.depth 8 l in rw e (packed file order p color k r b sides stored listed rl bl))
    (λ (g : 8 ≤ p.depth).
    ⊎_elim
    (λ (l : p.depth < 8). Prim.absurd (omega (arith, l, g)))
    (λ (w : p.depth ≡ p.depth / 8 * 8). rw (le-ltb p.depth 8 g) (handed file order p color k r b sides stored listed rl bl w))
    stored.depth)
    (cases_lt p.depth 8)

-- ---- a row is read: its bytes are taken and output

pub front_of : (front rest : List ℕ) (n : ℕ) → length front ≡ n → take n (front ++ rest) ≡ front
front_of front rest n e = ap (λ m. take m (front ++ rest)) (sym e) ∙ take-append_seam front rest

-- the bytes that were taken are the row's
pub taken : (order : ByteOrder) (p : PageRecord) (color : ColorType) (left rest filled out : List ℕ)
    → left ≡ filled ++ rest
    → length filled ≡ needed_of_row p color (length out)
    → ((b : ℕ) → b < length out → slice_index out b ≡ handed_byte order p filled color b)
    → TakesRow order p color left rest out
taken order p color left rest filled out e n h =
    let need : ℕ = needed_of_row p color (length out) in
    record {
      enough = omega (arith, (ap (λ (z : List ℕ). length z) e ∙ length-append filled rest), n);
      behind = behind_front filled rest need n ∙ ap (drop need) (sym e);
      handed =
          λ b bl. h b bl ∙ ap (λ (z : List ℕ). handed_byte order p z color b) (sym (ap (take need) e
          ∙ front_of filled rest need n));
    }

pub row_taken : (order : ByteOrder) (p : PageRecord) (color : ColorType)
    (left rest filled out : List ℕ) → needs_whole_rows p color ≡ false → left ≡ filled ++ rest
    → length filled ≡ length out → ((b : ℕ) → b < length out
    → slice_index out b ≡ handed_byte order p filled color b)
    → TakesRow order p color left rest out
row_taken order p color left rest filled out w e n h =
    taken order p color left rest filled out e (rw w n) h

pub whole_taken : (order : ByteOrder) (p : PageRecord) (color : ColorType)
    (left rest filled out : List ℕ) → needs_whole_rows p color ≡ true → left ≡ filled ++ rest
    → length filled ≡ stored_row_bytes p
    → ((b : ℕ) → b < length out → slice_index out b ≡ handed_byte order p filled color b)
    → TakesRow order p color left rest out
whole_taken order p color left rest filled out w e n h =
    taken order p color left rest filled out e (rw w n) h

pub row_cause : (p : PageRecord) (color : ColorType) (wanting failed : Type 0) (left : List ℕ)
    (n m : ℕ) (e : TiffError) → needs_whole_rows p color ≡ false → n ≡ m
    → IsCause ⊥ failed e (IsTooShort left n e)
    → IsCause wanting failed e (IsTooShort left (needed_of_row p color m) e)
row_cause p color wanting failed left n m e w q c =
    cause_along e (λ z. Prim.absurd z) (λ f. f) (λ t. record { fault = t.fault; short = rw w (omega (arith, t.short, q)) }) c

pub whole_cause : (p : PageRecord) (color : ColorType) (failed : Type 0) (left : List ℕ) (m : ℕ)
    (e : TiffError) → needs_whole_rows p color ≡ true
    → IsCause (Unit {0}) failed e (IsTooShort left (stored_row_bytes p) e)
    → IsCause (Unit {0}) failed e (IsTooShort left (needed_of_row p color m) e)
whole_cause p color failed left m e w c =
    cause_along e (λ z. z) (λ f. f) (λ t. record { fault = t.fault; short = rw w t.short }) c

-- a row of whole bytes is a row of whole numbers
pub row_of_numbers : (p : PageRecord) (color : ColorType) (width n : ℕ) → StoresAllShown p color
    → n ≡ row_bytes p color width
    → (p.depth < 8) ⊎ (n / (p.depth / 8) * (p.depth / 8) ≡ n)
unfolding row_bits
row_of_numbers p color width n stored e =
    ⊎_elim
    (λ (l : p.depth < 8). inl l)
    (λ (w : p.depth ≡ p.depth / 8 * 8).
    let size : ℕ = p.depth / 8 in
    let a : n ≡ width * samples_in_chunk p.planar color * size =
    e ∙ bits_are width p.depth size (samples_in_chunk p.planar color) w in
    ⊎_elim
    (λ (z : 0 < size). inr (ap (λ m. m / size * size) a
    ∙ ap (λ m. m * size) (mul-div_cancel (width * samples_in_chunk p.planar color) z) ∙ sym a))
    (λ (z : size ≤ 0). inl (omega (arith, z, w)))
    (cases_lt 0 size))
    stored.depth
