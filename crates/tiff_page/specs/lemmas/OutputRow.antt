-- The bytes of an output row, from the numbers that the row became.
use Rattle.std.proofs.Common.{take, drop, mul_assoc, ◌≡◌, ℕ, ◌+◌, ◌-◌, ◌*◌, ◌/◌, ◌%◌, ◌^◌, ◌<◌, ◌≤◌, ◌⊎◌, true, false, List, length, get_or, refl, ap, sym, ◌∙◌, subst, arith, ⊎_elim}
use Rattle.std.specs.Prelude.{nat_lt}
use Rattle.std.proofs.lemmas.List.{get_or_past, get_or-take, get_or-drop, length-take-le, length-drop}
use borrow.Rule.Slice.PartMut.{put_mid}
use Rattle.std.proofs.lemmas.Bool.{cases_Bool, cases_lt, lt-ltb, le-ltb, ltb-false, ltb-true}
use Rattle.std.proofs.lemmas.Nat.{div-add-mod', div-mul-add, mod-mul-add, mod_below, div_below}
use Rattle.std.proofs.Math.Nat.{mul-le-mul_right, mul_comm}
use Rattle.tiff_base.specs.declared.color.ColorType.{ColorType}
use Rattle.tiff_base.specs.declared.tags.ByteOrder.{ByteOrder}
use Rattle.tiff_base.specs.declared.tags.ByteOrder.TheVariants.{LittleEndian, BigEndian}
use Rattle.tiff_base.specs.declared.tags.PhotometricInterpretation.{PhotometricInterpretation}
use Rattle.tiff_base.specs.declared.tags.PhotometricInterpretation.TheVariants as meaning
use Rattle.tiff_base.specs.declared.tags.Predictor.{Predictor}
use Rattle.tiff_base.specs.declared.tags.Predictor.TheVariants as predictor
use Rattle.tiff_page.specs.Layout.{samples_in_chunk, row_bits, row_bytes}
use Rattle.tiff_page.specs.Page.{PageRecord}
use Rattle.tiff_page.specs.Pixels.{stored_samples, stored_row_bytes, is_byte_plane, needs_whole_rows, row_number, summed_number, joined_number, number_by, number_of_row, shown_number, in_row}
use Rattle.tiff_page.specs.Row.{IsSize, RowReplaced, SwapsBytes}
use Rattle.tiff_page.specs.OutputRow.{HoldsNumbersOf, handed_byte, needs_swap}
use Rattle.tiff_page.specs.ReadablePage.{IsRead}
use Rattle.tiff_page.specs.lemmas.Rows.{put_below, put_there, by_size, digits, little_digits, some_size, sums_same, stayed, bytes_stayed, bytes_of_numbers, complemented, digit}

-- ---- bytes of a number

-- a byte of a number of a row
module _ (size : ℕ) (z : IsSize size) (row : List ℕ) (octets : (i : ℕ) → get_or row i 0 < 256)
    (k j v : ℕ) (l : j < size) (e : row_number LittleEndian size row k ≡ v) where
  byte_stands : v / 256 ^ j % 256 ≡ get_or row (k * size + j) 0
  byte_stands =
      ap (λ (m : ℕ). m / 256 ^ j % 256) (sym e) ∙ sym (bytes_of_numbers size row k j z octets l)

  byte_turned : (256 ^ size - 1 - v) / 256 ^ j % 256 ≡ 255 - get_or row (k * size + j) 0
  byte_turned =
      let f : ℕ → ℕ = λ i. get_or row (k * size + i) 0 in
      let g : ℕ → ℕ = λ i. 255 - f i in
      let n : 256 ^ size - 1 - v ≡ digits g size =
      omega (arith, complemented g f size (λ i h. refl) (λ i. octets (k * size + i)), (sym e ∙ little_digits size f z)) in
      ap (λ (m : ℕ). m / 256 ^ j % 256) n ∙ digit g size j (λ i. omega arith) l

  byte_shown : (i : PhotometricInterpretation)
      → shown_number i (256 ^ size) v / 256 ^ j % 256
      ≡ shown_number i 256 (get_or row (k * size + j) 0)
  byte_shown meaning.WhiteIsZero = byte_turned
  byte_shown _ = byte_stands

-- ---- depths of whole bytes

bytes_limit : (size : ℕ) → IsSize size → 2 ^ (size * 8) ≡ 256 ^ size
bytes_limit size z =
    by_size (λ n. 2 ^ (n * 8) ≡ 256 ^ n) size (omega arith) (omega arith) (omega arith) (omega arith) z

pub whole : (p : PageRecord) (c : ColorType) → IsRead p c → 8 ≤ p.depth
    → IsSize (p.depth / 8) × (p.depth ≡ p.depth / 8 * 8)
whole p c r d = (
  ⊎_elim (λ (l : p.depth < 8). Prim.absurd (omega (arith, l, d))) (λ z. z) r.size,
  ⊎_elim (λ (l : p.depth < 8). Prim.absurd (omega (arith, l, d))) (λ e. e) r.stored.depth,
)

depth_limit : (p : PageRecord) → IsSize (p.depth / 8) → p.depth ≡ p.depth / 8 * 8
    → 2 ^ p.depth ≡ 256 ^ (p.depth / 8)
depth_limit p z e = ap (λ (n : ℕ). 2 ^ n) e ∙ bytes_limit (p.depth / 8) z

-- ---- the numbers of a row, without the byte-plane predictor

pub summed_row : (p : PageRecord) (old new : List ℕ) (size s : ℕ)
    → p.predictor ≡ predictor.Horizontal → size ≡ p.depth / 8 → s ≡ stored_samples p
    → RowReplaced size (summed_number LittleEndian size s old) old new
    → RowReplaced (p.depth / 8) (number_of_row LittleEndian p old) old new
summed_row p old new size s e z n b =
    let c : RowReplaced (p.depth / 8) (summed_number LittleEndian (p.depth / 8) (stored_samples p) old) old new =
    subst (λ (x : ℕ). RowReplaced (p.depth / 8) (summed_number LittleEndian (p.depth / 8) x old) old new) n
    (subst (λ (x : ℕ). RowReplaced x (summed_number LittleEndian x s old) old new) z b) in
    record { numbers = λ k h. c.numbers k h ∙ (rw e refl); behind = c.behind }

-- a number depends only on the numbers that a list holds of its row
module _ (order : ByteOrder) (p : PageRecord) (stored held : List ℕ)
    (b : RowReplaced (p.depth / 8) (row_number order (p.depth / 8) stored) stored held) where
  number_undone : (q : Predictor) → is_byte_plane q ≡ false → (k : ℕ)
      → (k + 1) * (p.depth / 8) ≤ length stored
      → number_by q LittleEndian p held k ≡ number_by q order p stored k
  number_undone predictor.None f k h = b.numbers k h
  number_undone predictor.Horizontal f k h =
      sums_same LittleEndian order (p.depth / 8) (stored_samples p) held stored k (length stored) b.numbers h
  number_undone predictor.FloatingPoint f k h = cc

pub undone_numbers : (order : ByteOrder) (p : PageRecord) (stored held new : List ℕ)
    → is_byte_plane p.predictor ≡ false → length held ≡ length stored
    → RowReplaced (p.depth / 8) (row_number order (p.depth / 8) stored) stored held
    → RowReplaced (p.depth / 8) (number_of_row LittleEndian p held) held new
    → RowReplaced (p.depth / 8) (number_of_row order p stored) stored new
undone_numbers order p stored held new f l b c =
    let size : ℕ = p.depth / 8 in
    record {
      numbers =
          λ k h. c.numbers k (omega (arith, h, l))
          ∙ number_undone order p stored held b p.predictor f k h;
      behind =
          λ i h. (let g : length held / size * size ≡ length stored / size * size = ap (λ (n : ℕ). n / size * size) l in
          c.behind i (omega (arith, g, h)) ∙ b.behind i h);
    }

-- ---- the numbers that a list holds of a row

pub holds_same : (order : ByteOrder) (p : PageRecord) (row : List ℕ)
    → needs_swap order p.depth ≡ false → HoldsNumbersOf order p row row
holds_same LittleEndian p row t =
    record { same_length = refl; numbers = λ d. stayed (p.depth / 8) row; packed = λ d. refl }
holds_same BigEndian p row t =
    record { same_length = refl; numbers = λ d. bytes_stayed BigEndian (p.depth / 8) row (omega (arith, d, ltb-false 8 p.depth t)); packed = λ d. refl }

-- the little-endian numbers of a row
pub holds_turned : (order : ByteOrder) (p : PageRecord) (row out : List ℕ)
    → needs_swap order p.depth ≡ true → length out ≡ length row
    → (p.depth < 8) ⊎ (length row / (p.depth / 8) * (p.depth / 8) ≡ length row)
    → SwapsBytes (p.depth / 8) row out → HoldsNumbersOf order p row out
holds_turned LittleEndian p row out t l whole turned = cc
holds_turned BigEndian p row out t l whole turned =
    let deep : 8 < p.depth = ltb-true 8 p.depth t in
    record {
      same_length = l;
      numbers = λ d. record {
        numbers = turned;
        behind =
            λ i h. (let past : length row ≤ i = ⊎_elim (λ (q : p.depth < 8). Prim.absurd (omega (arith, q, deep))) (λ e. omega (arith, e, h)) whole in
            get_or_past out i 0 (omega (arith, past, l)) ∙ sym (get_or_past row i 0 past));
      };
      packed = λ d. Prim.absurd (omega (arith, d, deep));
    }

pub whole_stood : (order : ByteOrder) (p : PageRecord) (row : List ℕ)
    → needs_swap order p.depth ≡ false → IsSize (p.depth / 8)
    → RowReplaced (p.depth / 8) (row_number order (p.depth / 8) row) row row
whole_stood order p row t z =
    let s : 0 < p.depth / 8 =
    some_size (p.depth / 8) z in (holds_same order p row t).numbers (omega (arith, s))

-- ---- the output bytes

-- of a row of numbers, k is the number to which a byte belongs
handed_at : (order : ByteOrder) (p : PageRecord) (c : ColorType) (old mid : List ℕ) (b k : ℕ)
    → IsRead p c → 8 ≤ p.depth
    → RowReplaced (p.depth / 8) (number_of_row order p old) old mid
    → ((i : ℕ) → get_or mid i 0 < 256)
    → in_row p (b / (p.depth / 8) / samples_in_chunk p.planar c) (b / (p.depth / 8) % samples_in_chunk p.planar c) ≡ k → (k + 1) * (p.depth / 8) ≤ length old
    → shown_number p.interpretation 256 (get_or mid (k * (p.depth / 8) + b % (p.depth / 8)) 0)
    ≡ handed_byte order p old c b
handed_at order p c old mid b k r d became octets at within =
    let size : ℕ = p.depth / 8 in
    let s : ℕ = samples_in_chunk p.planar c in
    let n : ℕ = in_row p (b / size / s) (b / size % s) in
    let z : IsSize size = (whole p c r d).0 in
    sym (rw (le-ltb p.depth 8 d)
    (ap (λ (x : ℕ). shown_number p.interpretation x (number_of_row order p old n) / 256 ^ (b % size) % 256) (depth_limit p z (whole p c r d).1)
    ∙ byte_shown size z mid octets k (b % size) (number_of_row order p old n) (mod_below b size (some_size size z)) (became.numbers k within ∙ ap (number_of_row order p old) (sym at)) p.interpretation))

handed_packed : (order : ByteOrder) (p : PageRecord) (c : ColorType) (old : List ℕ) (b : ℕ)
    → p.depth < 8
    → shown_number p.interpretation 256 (get_or old b 0) ≡ handed_byte order p old c b
handed_packed order p c old b d = let f : nat_lt p.depth 8 ≡ true = lt-ltb p.depth 8 d in rw f refl

pub in_place : (p : PageRecord) (c : ColorType) → needs_whole_rows p c ≡ false
    → (is_byte_plane p.predictor ≡ false)
    × (nat_lt (samples_in_chunk p.planar c) (stored_samples p) ≡ false)
in_place p c h =
    ⊎_elim (λ (t : is_byte_plane p.predictor ≡ true). let k : true ≡ false = rw t at h in cc)
    (λ (f : is_byte_plane p.predictor ≡ false). (f, rw f at h)) (cases_Bool (is_byte_plane p.predictor))

-- a byte after the last one is 0
pub each_octet : (row : List ℕ) → ((i : ℕ) → i < length row → get_or row i 0 < 256) → (i : ℕ)
    → get_or row i 0 < 256
each_octet row b i =
    ⊎_elim (λ (h : i < length row). b i h) (λ (h : length row ≤ i). (let e : get_or row i 0 ≡ 0 = get_or_past row i 0 h in omega (arith, e))) (cases_lt i (length row))

-- a row whose samples are all output
pub row_handed : (order : ByteOrder) (p : PageRecord) (c : ColorType) (old mid : List ℕ) (b : ℕ)
    → IsRead p c → needs_whole_rows p c ≡ false
    → (8 ≤ p.depth → RowReplaced (p.depth / 8) (number_of_row order p old) old mid)
    → (p.depth < 8 → mid ≡ old) → ((i : ℕ) → i < length mid → get_or mid i 0 < 256)
    → (p.depth < 8) ⊎ (length old / (p.depth / 8) * (p.depth / 8) ≡ length old) → b < length old
    → shown_number p.interpretation 256 (get_or mid b 0) ≡ handed_byte order p old c b
row_handed order p c old mid b r w numbers same within_mid rows l =
    ⊎_elim
    (λ (d : p.depth < 8). ap (λ (xs : List ℕ). shown_number p.interpretation 256 (get_or xs b 0)) (same d) ∙ handed_packed order p c old b d)
    (λ (d : 8 ≤ p.depth).
    let size : ℕ = p.depth / 8 in
    let s : ℕ = samples_in_chunk p.planar c in
    let a : stored_samples p ≡ s =
    omega (arith, r.stored.stores, ltb-false s (stored_samples p) (in_place p c w).1) in
    let k : ℕ = b / size in
    let even : length old / size * size ≡ length old =
    ⊎_elim (λ (q : p.depth < 8). Prim.absurd (omega (arith, q, d))) (λ q. q) rows in
    let few : k < length old / size =
    div_below b size (length old / size) (some_size size (whole p c r d).0)
    (omega (arith, l, even, mul_comm size (length old / size))) in
    let within : (k + 1) * size ≤ length old / size * size =
    mul-le-mul_right size (omega (arith, few)) in
    ap (λ (x : ℕ). shown_number p.interpretation 256 (get_or mid x 0)) (sym (div-add-mod' b size))
    ∙ handed_at order p c old mid b k r d (numbers d) (each_octet mid within_mid) (ap (λ (x : ℕ). k / s * x + k % s) a ∙ div-add-mod' k s) (omega (arith, within, even)))
    (cases_lt p.depth 8)

-- ---- whole rows

-- pixels of which the first bytes are kept
pub kept_more : (row cur part : List ℕ) (column whole kept width n m : ℕ) → n ≡ kept → m ≡ kept
    → kept ≤ whole → column < width → width * whole ≤ length row
    → length cur ≡ width * kept → part ≡ take m (drop (column * whole) row)
    → ((i : ℕ) → i < column * kept → get_or cur i 0 ≡ get_or row (i / kept * whole + i % kept) 0)
    → (i : ℕ) → i < (column + 1) * kept
    → get_or (put_mid (column * kept) n cur part) i 0
    ≡ get_or row (i / kept * whole + i % kept) 0
kept_more row cur part column whole kept width n m en em w c long lens p before i h =
    let f : (column + 1) * whole ≤ width * whole = mul-le-mul_right whole (omega (arith, c)) in
    let g : (column + 1) * kept ≤ width * kept = mul-le-mul_right kept (omega (arith, c)) in
    let there : column * kept + n ≤ length cur = omega (arith, g, lens, en) in
    let size : length part ≡ n =
    ap length p ∙ length-take-le m (drop (column * whole) row) (omega (arith, length-drop (column * whole) row, f, w, em, long)) ∙ em ∙ sym en in
    ⊎_elim
    (λ (a : i < column * kept). put_below cur part (column * kept) n i (omega (arith, there)) a
    ∙ before i a)
    (λ (a : column * kept ≤ i).
    let j : ℕ = i - column * kept in
    let b : j < kept = omega (arith, a, h) in
    let e : column * kept + j ≡ i = omega (arith, a) in
    ap (λ (x : ℕ). get_or (put_mid (column * kept) n cur part) x 0) (sym e)
    ∙ sym (get_or-drop (column * kept) (put_mid (column * kept) n cur part) j 0)
    ∙ sym (get_or-take n (drop (column * kept) (put_mid (column * kept) n cur part)) j 0 (omega (arith, b, en)))
    ∙ ap (λ (xs : List ℕ). get_or xs j 0) (put_there cur part (column * kept) n there size ∙ p)
    ∙ get_or-take m (drop (column * whole) row) j 0 (omega (arith, b, em))
    ∙ get_or-drop (column * whole) row j 0
    ∙ sym (λ t. get_or row ((ap (λ (x : ℕ). x / kept) (sym e) ∙ div-mul-add column kept j b) t * whole + (ap (λ (x : ℕ). x % kept) (sym e) ∙ mod-mul-add column kept j b) t) 0))
    (cases_lt i (column * kept))

-- the numbers of byte planes
pub joined_numbers : (order : ByteOrder) (p : PageRecord) (old new : List ℕ)
    → p.predictor ≡ predictor.FloatingPoint
    → length old / (p.depth / 8) ≡ p.chunk_width * stored_samples p
    → RowReplaced (p.depth / 8) (joined_number (p.depth / 8) (stored_samples p) (length old / (p.depth / 8)) old) old new
    → RowReplaced (p.depth / 8) (number_of_row order p old) old new
joined_numbers order p old new e l b =
    record {
      numbers =
          λ k h. b.numbers k h ∙ (rw e (λ i. joined_number (p.depth / 8) (stored_samples p) (l i) old k));
      behind = b.behind;
    }

-- the bytes of a number of samples of whole bytes
sample_bytes : (n d s : ℕ) → d ≡ d / 8 * 8 → (n * d * s + 7) / 8 ≡ n * s * (d / 8)
sample_bytes n d s e =
    let k : n * (d / 8 * 8) * s ≡ n * s * (d / 8) * 8 = omega arith in
    omega (arith, (ap (λ (x : ℕ). n * x * s) e ∙ k))

pub stored_bytes : (p : PageRecord) → p.depth ≡ p.depth / 8 * 8
    → stored_row_bytes p ≡ p.chunk_width * stored_samples p * (p.depth / 8)
stored_bytes p e = sample_bytes p.chunk_width p.depth (stored_samples p) e

pub shown_bytes : (p : PageRecord) (c : ColorType) (width : ℕ) → p.depth ≡ p.depth / 8 * 8
    → row_bytes p c width ≡ width * (samples_in_chunk p.planar c * (p.depth / 8))
unfolding row_bits
shown_bytes p c width e =
    sample_bytes width p.depth (samples_in_chunk p.planar c) e
    ∙ mul_assoc width (samples_in_chunk p.planar c) (p.depth / 8)

pub stored_count : (p : PageRecord) (n : ℕ) → IsSize (p.depth / 8) → p.depth ≡ p.depth / 8 * 8
    → n ≡ stored_row_bytes p → n / (p.depth / 8) ≡ p.chunk_width * stored_samples p
stored_count p n z e l =
    let f : n ≡ p.chunk_width * stored_samples p * (p.depth / 8) + 0 =
    omega (arith, l, stored_bytes p e) in
    ap (λ (x : ℕ). x / (p.depth / 8)) f
    ∙ div-mul-add (p.chunk_width * stored_samples p) (p.depth / 8) 0 (some_size (p.depth / 8) z)

pub stored_whole : (p : PageRecord) (n : ℕ) → IsSize (p.depth / 8) → p.depth ≡ p.depth / 8 * 8
    → n ≡ stored_row_bytes p → n / (p.depth / 8) * (p.depth / 8) ≡ n
stored_whole p n z e l =
    let f : p.chunk_width * stored_samples p * (p.depth / 8) ≡ n =
    omega (arith, l, stored_bytes p e) in
    ap (λ (x : ℕ). x * (p.depth / 8)) (stored_count p n z e l) ∙ f

pub no_byte_plane : (q : Predictor) → (q ≡ predictor.FloatingPoint → ⊥) → is_byte_plane q ≡ false
no_byte_plane predictor.FloatingPoint h = Prim.absurd (h refl)
no_byte_plane predictor.None h = refl
no_byte_plane predictor.Horizontal h = refl

pub whole_deep : (p : PageRecord) (c : ColorType) → IsRead p c → needs_whole_rows p c ≡ true
    → 8 ≤ p.depth
whole_deep p c r h =
    ⊎_elim
    (λ (l : p.depth < 8).
    let f : nat_lt (samples_in_chunk p.planar c) (stored_samples p) ≡ false =
    le-ltb (samples_in_chunk p.planar c) (stored_samples p) (omega (arith, r.all l)) in
    let k : false ≡ true = rw ((r.unpredicted l), f) at h in cc)
    (λ (d : 8 ≤ p.depth). d) (cases_lt p.depth 8)

pub stored_fill : (p : PageRecord) (c : ColorType) (width whole_pixel n : ℕ) → IsRead p c
    → needs_whole_rows p c ≡ true → width ≤ p.chunk_width → n ≡ stored_row_bytes p
    → whole_pixel ≡ stored_samples p * (p.depth / 8) → width * whole_pixel ≤ n
stored_fill p c width whole_pixel n r w few e ew =
    let g : p.chunk_width * whole_pixel ≡ p.chunk_width * stored_samples p * (p.depth / 8) =
    ap (λ (x : ℕ). p.chunk_width * x) ew
    ∙ sym (mul_assoc p.chunk_width (stored_samples p) (p.depth / 8)) in
    omega (arith, mul-le-mul_right whole_pixel few, g, e, stored_bytes p (whole p c r (whole_deep p c r w)).1)

-- a row of which pixels are kept
pub whole_handed : (order : ByteOrder) (p : PageRecord) (c : ColorType) (old mid : List ℕ)
    (width kept whole_pixel b x : ℕ) → IsRead p c → needs_whole_rows p c ≡ true
    → width ≤ p.chunk_width → length old ≡ stored_row_bytes p
    → kept ≡ samples_in_chunk p.planar c * (p.depth / 8)
    → whole_pixel ≡ stored_samples p * (p.depth / 8)
    → RowReplaced (p.depth / 8) (number_of_row order p old) old mid
    → ((i : ℕ) → i < length mid → get_or mid i 0 < 256)
    → b < width * kept → x ≡ get_or mid (b / kept * whole_pixel + b % kept) 0
    → shown_number p.interpretation 256 x ≡ handed_byte order p old c b
whole_handed order p c old mid width kept whole_pixel b x r w few long ek ew became within_mid l ex =
    let d : 8 ≤ p.depth = whole_deep p c r w in
    let size : ℕ = p.depth / 8 in
    let s : ℕ = samples_in_chunk p.planar c in
    let n : ℕ = b / size in
    let k : ℕ = n / s * stored_samples p + n % s in
    let e : n / s * kept + (n % s * size + b % size) ≡ b =
    ap (λ (y : ℕ). n / s * y + (n % s * size + b % size)) ek
    ∙ (let f : n / s * (s * size) + (n % s * size + b % size) ≡ (n / s * s + n % s) * size + b % size = omega arith in f)
    ∙ ap (λ (y : ℕ). y * size + b % size) (div-add-mod' n s) ∙ div-add-mod' b size in
    let o : (n % s + 1) * size ≤ s * size =
    mul-le-mul_right size (omega (arith, mod_below n s r.stored.shows)) in
    let m : n % s * size + b % size < kept =
    omega (arith, o, mod_below b size (some_size size (whole p c r d).0), ek) in
    let t : b % kept ≡ n % s * size + b % size =
    ap (λ (y : ℕ). y % kept) (sym e) ∙ mod-mul-add (n / s) kept (n % s * size + b % size) m in
    let at : n / s * (stored_samples p * size) + (n % s * size + b % size) ≡ k * size
    + b % size = omega arith in
    let column : n / s < width = ⊎_elim (λ a. a)
    (λ (a : width ≤ n / s). (let g : width * kept ≤ n / s * kept = mul-le-mul_right kept a in Prim.absurd (omega (arith, g, e, l)))) (cases_lt (n / s) width) in
    let g : (n / s + 1) * stored_samples p ≤ p.chunk_width * stored_samples p =
    mul-le-mul_right (stored_samples p) (omega (arith, column, few)) in
    let v : (k + 1) * size ≤ p.chunk_width * stored_samples p * size =
    mul-le-mul_right size (omega (arith, g, mod_below n s r.stored.shows, r.stored.stores)) in
    let within : (k + 1) * size ≤ length old =
    omega (arith, v, long, stored_bytes p (whole p c r d).1) in
    ap (shown_number p.interpretation 256)
    (ex ∙ (λ i. get_or mid ((ap (λ (y : ℕ). y / kept) (sym e) ∙ div-mul-add (n / s) kept (n % s * size + b % size) m) i * ew i + t i) 0) ∙ ap (λ (y : ℕ). get_or mid y 0) at)
    ∙ handed_at order p c old mid b k r d became (each_octet mid within_mid) refl within
