-- A stored row outputs the samples that were put into it.
use Rattle.std.proofs.Common.{◌≡◌, ℕ, ◌+◌, ◌*◌, ◌/◌, ◌%◌, ◌^◌, ◌<◌, ◌≤◌, List, length, get_or, refl, ap, sym, ◌∙◌, arith, true, false, ⊎_elim}
use Rattle.std.proofs.lemmas.Bool.{cases_Bool, lt-ltb, le-ltb, ltb-false}
use Rattle.std.proofs.lemmas.Nat.{div-add-mod', div-mul-add, mod-mul-add, mod_below, div_below}
use Rattle.std.proofs.Math.Nat.{mul-le-mul_right}
use Rattle.tiff_base.specs.declared.color.ColorType.{ColorType}
use Rattle.tiff_base.specs.declared.tags.ByteOrder.{ByteOrder}
use Rattle.tiff_base.specs.declared.tags.ByteOrder.TheVariants.{LittleEndian}
use Rattle.tiff_base.specs.declared.tags.PhotometricInterpretation.{PhotometricInterpretation}
use Rattle.tiff_base.specs.declared.tags.PhotometricInterpretation.TheVariants as meaning
use Rattle.tiff_base.specs.declared.tags.Predictor.{Predictor}
use Rattle.tiff_base.specs.declared.tags.Predictor.TheVariants as predictor
use Rattle.tiff_page.specs.Layout.{samples_in_chunk, row_bytes}
use Rattle.tiff_page.specs.OutputRow.{handed_byte}
use Rattle.tiff_page.specs.Page.{PageRecord}
use Rattle.tiff_page.specs.Pixels.{is_byte_plane, needed_of_row, needs_whole_rows, number_by, row_number, shown_number, stored_row_bytes, stored_samples}
use Rattle.tiff_page.specs.ReadablePage.{IsRead}
use Rattle.tiff_page.specs.Row.{IsSize}
use Rattle.tiff_page.specs.lemmas.OutputRow.{each_octet, in_place, whole, shown_bytes, stored_bytes}
use Rattle.tiff_page.specs.lemmas.Rows.{by_size, bytes_of_numbers, number_before, number_lt, number_within, some_size}
use Rattle.tiff_rewrite.specs.Rewrite.{RowRewritten}
use Rattle.tiff_rewrite.specs.StoredNumbers.{place_of, plain_number, stored_by}
use Rattle.tiff_rewrite.proofs.NumberPlaces.{summed_back}

-- ---- complements

-- a number below m, complemented twice
pub shown_twice : (i : PhotometricInterpretation) (m v : ℕ) → v < m
    → shown_number i m (shown_number i m v) ≡ v
shown_twice meaning.WhiteIsZero m v h = omega (arith, h)
shown_twice _ m v h = refl

pub shown_below : (i : PhotometricInterpretation) (m v : ℕ) → v < m → shown_number i m v < m
shown_below meaning.WhiteIsZero m v h = omega (arith, h)
shown_below _ m v h = h

power_of_size : (size : ℕ) → IsSize size → 2 ^ (size * 8) ≡ 256 ^ size
power_of_size size z =
    by_size (λ n. 2 ^ (n * 8) ≡ 256 ^ n) size (omega arith) (omega arith) (omega arith) (omega arith) z

-- ---- a row of whole bytes

-- a row of samples of numbers of `size` bytes, `s` of them a pixel, and a stored row with `stored`
-- numbers a pixel
module _ (order : ByteOrder) (p : PageRecord) (c : ColorType) (samples row : List ℕ)
    (r : IsRead p c) (deep : 8 ≤ p.depth)
    (octets : (i : ℕ) → get_or samples i 0 < 256) where
  abbrev size : ℕ
  size = p.depth / 8

  abbrev shown : ℕ
  shown = samples_in_chunk p.planar c

  abbrev plain : ℕ → ℕ
  plain = plain_number p.interpretation size samples

  sized : IsSize size
  sized = (whole p c r deep).0

  plain_below : (n : ℕ) → plain n < 256 ^ size
  plain_below n =
      shown_below p.interpretation (256 ^ size) (row_number LittleEndian size samples n)
      (number_lt size samples n sized octets)

  limit : 2 ^ p.depth ≡ 256 ^ size
  limit = ap (λ (n : ℕ). 2 ^ n) (whole p c r deep).1 ∙ power_of_size size sized

  -- each number of the samples is stored
  abbrev Stored : Predictor → Type 0
  Stored q =
      (n : ℕ) → n < length samples / size
      → row_number order size row (place_of shown (stored_samples p) n)
      ≡ stored_by q (256 ^ size) shown plain n

  number_back : (q : Predictor) → is_byte_plane q ≡ false → Stored q → (n : ℕ)
      → n < length samples / size
      → number_by q order p row (place_of shown (stored_samples p) n) ≡ plain n
  number_back predictor.None f put n h = put n h
  number_back predictor.Horizontal f put n h =
      summed_back order size shown (stored_samples p) row plain (length samples / size) n r.stored.shows r.stored.stores h plain_below put
  number_back predictor.FloatingPoint f put n h = cc

  byte_back : is_byte_plane p.predictor ≡ false → Stored p.predictor
      → length samples / size * size ≡ length samples → (b : ℕ) → b < length samples
      → handed_byte order p row c b ≡ get_or samples b 0
  byte_back f put even b h =
      let n : ℕ = b / size in
      let j : ℕ = b % size in
      let some : 0 < size = some_size size sized in
      let few : n < length samples / size =
      div_below b size (length samples / size) some (omega (arith, h, even)) in
      let v : ℕ = row_number LittleEndian size samples n in
      rw (le-ltb p.depth 8 deep)
      ((λ i. shown_number p.interpretation (limit i) (number_back p.predictor f put n few i) / 256 ^ j % 256)
      ∙ ap (λ (m : ℕ). m / 256 ^ j % 256) (shown_twice p.interpretation (256 ^ size) v (number_lt size samples n sized octets))
      ∙ sym (bytes_of_numbers size samples n j sized octets (mod_below b size some))
      ∙ ap (λ (m : ℕ). get_or samples m 0) (div-add-mod' b size))

-- ---- a row is rewritten

-- how a row of samples and what is read of its stored row are laid out
pub record IsLaidRow (p : PageRecord) (c : ColorType) (width : ℕ) (samples row : List ℕ) : Type 0 where
  pub read : IsRead p c
  pub in_place : is_byte_plane p.predictor ≡ false
  pub few : width ≤ p.chunk_width
  pub long : length samples ≡ row_bytes p c width
  pub stored : length row ≡ needed_of_row p c (length samples)

module _ (p : PageRecord) (c : ColorType) (width : ℕ) (samples row : List ℕ) (deep : 8 ≤ p.depth)
    (laid : IsLaidRow p c width samples row) where
  some_byte : 0 < p.depth / 8
  some_byte = some_size (p.depth / 8) (whole p c laid.read deep).0

  samples_len : length samples ≡ width * samples_in_chunk p.planar c * (p.depth / 8)
  samples_len = laid.long ∙ shown_bytes p c width (whole p c laid.read deep).1 ∙ omega arith

  pub even_samples : length samples / (p.depth / 8) * (p.depth / 8) ≡ length samples
  even_samples =
      let count : ℕ = width * samples_in_chunk p.planar c in
      let e : length samples ≡ count * (p.depth / 8) + 0 = omega (arith, samples_len) in
      ap (λ (n : ℕ). n / (p.depth / 8) * (p.depth / 8)) e
      ∙ ap (λ (n : ℕ). n * (p.depth / 8)) (div-mul-add count (p.depth / 8) 0 some_byte)
      ∙ sym samples_len

  pub column_of : (n : ℕ) → (n + 1) * (p.depth / 8) ≤ length samples
      → n / samples_in_chunk p.planar c < width
  column_of n h =
      let count : ℕ = width * samples_in_chunk p.planar c in
      let e : length samples ≡ count * (p.depth / 8) + 0 = omega (arith, samples_len) in
      let all : length samples / (p.depth / 8) ≡ count =
      ap (λ (m : ℕ). m / (p.depth / 8)) e ∙ div-mul-add count (p.depth / 8) 0 some_byte in
      div_below n (samples_in_chunk p.planar c) width laid.read.stored.shows
      (omega (arith, number_before n (p.depth / 8) (length samples) some_byte h, all))

  pub place_within : (n : ℕ) → (n + 1) * (p.depth / 8) ≤ length samples
      → (place_of (samples_in_chunk p.planar c) (stored_samples p) n + 1) * (p.depth / 8)
      ≤ length row
  place_within n h =
      let s : ℕ = samples_in_chunk p.planar c in
      let low : n % s < s = mod_below n s laid.read.stored.shows in
      ⊎_elim
      (λ (e : needs_whole_rows p c ≡ true).
      let long : length row ≡ stored_row_bytes p = laid.stored ∙ (rw e refl) in
      let a : (n / s + 1) * stored_samples p ≤ p.chunk_width * stored_samples p =
      mul-le-mul_right (stored_samples p) (omega (arith, column_of n h, laid.few)) in
      let b : (place_of s (stored_samples p) n + 1) * (p.depth / 8)
      ≤ p.chunk_width * stored_samples p * (p.depth / 8) =
      mul-le-mul_right (p.depth / 8) (omega (arith, a, low, laid.read.stored.stores)) in
      omega (arith, b, long, stored_bytes p (whole p c laid.read deep).1))
      (λ (e : needs_whole_rows p c ≡ false).
      let long : length row ≡ length samples = laid.stored ∙ (rw e refl) in
      let all : stored_samples p ≡ s =
      omega (arith, laid.read.stored.stores, ltb-false s (stored_samples p) (in_place p c e).1) in
      let here : place_of s (stored_samples p) n ≡ n =
      ap (λ (m : ℕ). n / s * m + n % s) all ∙ div-add-mod' n s in
      let same : (place_of s (stored_samples p) n + 1) * (p.depth / 8) ≡ (n + 1) * (p.depth / 8) =
      ap (λ (m : ℕ). (m + 1) * (p.depth / 8)) here in
      omega (arith, same, h, long))
      (cases_Bool (needs_whole_rows p c))

  pub numbers_row : (order : ByteOrder) (new : List ℕ) → length new ≡ length row
      → ((i : ℕ) → i < length samples → get_or samples i 0 < 256)
      → ((n : ℕ) → (n + 1) * (p.depth / 8) ≤ length samples
      → row_number order (p.depth / 8) new (place_of (samples_in_chunk p.planar c) (stored_samples p) n)
      ≡ stored_by p.predictor (256 ^ (p.depth / 8)) (samples_in_chunk p.planar c) (plain_number p.interpretation (p.depth / 8) samples) n)
      → ((b : ℕ) → ((n : ℕ) → (n + 1) * (p.depth / 8) ≤ length samples
      → b / (p.depth / 8) ≡ place_of (samples_in_chunk p.planar c) (stored_samples p) n → ⊥)
      → get_or new b 0 ≡ get_or row b 0)
      → RowRewritten order p c width samples row new
  numbers_row order new same octets put rest =
      let s : ℕ = samples_in_chunk p.planar c in
      record {
        same_length = same;
        output =
            λ b h. byte_back order p c samples new laid.read deep (each_octet samples octets) laid.in_place (λ n l. put n (number_within n (p.depth / 8) (length samples) l)) even_samples b (omega (arith, h, laid.long));
        others = λ b h. rest b (λ n l e.
            let low : n % s < stored_samples p =
            omega (arith, mod_below n s laid.read.stored.shows, laid.read.stored.stores) in
            let column : b / (p.depth / 8) / stored_samples p ≡ n / s =
            ap (λ (m : ℕ). m / stored_samples p) e
            ∙ div-mul-add (n / s) (stored_samples p) (n % s) low in
            let sample : b / (p.depth / 8) % stored_samples p ≡ n % s =
            ap (λ (m : ℕ). m % stored_samples p) e
            ∙ mod-mul-add (n / s) (stored_samples p) (n % s) low in
            let f = rw (le-ltb p.depth 8 deep) at h in
            let g =
            rw (lt-ltb (b / (p.depth / 8) / stored_samples p) width (omega (arith, column, column_of n l))) at f in
            let k : true ≡ false =
            rw (lt-ltb (b / (p.depth / 8) % stored_samples p) s (omega (arith, sample, mod_below n s laid.read.stored.shows))) at g in
            cc);
      }

  -- the same, with the sizes by other names
  module _ (size s stored : ℕ) (ez : size ≡ p.depth / 8) (es : s ≡ samples_in_chunk p.planar c)
      (et : stored ≡ stored_samples p) where
    pub named_within : (n : ℕ) → (n + 1) * size ≤ length samples
        → (place_of s stored n + 1) * size ≤ length row
    named_within n h =
        let a : (n + 1) * size ≡ (n + 1) * (p.depth / 8) = λ i. (n + 1) * ez i in
        let b : (place_of s stored n + 1) * size
        ≡ (place_of (samples_in_chunk p.planar c) (stored_samples p) n + 1) * (p.depth / 8) =
        λ i. (place_of (es i) (et i) n + 1) * ez i in
        omega (arith, b, place_within n (omega (arith, a, h)))

    pub named_row : (order : ByteOrder) (new : List ℕ) → length new ≡ length row
        → ((i : ℕ) → i < length samples → get_or samples i 0 < 256)
        → ((n : ℕ) → (n + 1) * size ≤ length samples
        → row_number order size new (place_of s stored n) ≡ stored_by p.predictor (256 ^ size) s (plain_number p.interpretation size samples) n)
        → ((b : ℕ) → ((n : ℕ) → (n + 1) * size ≤ length samples → b / size ≡ place_of s stored n
        → ⊥) → get_or new b 0 ≡ get_or row b 0)
        → RowRewritten order p c width samples row new
    named_row order new same octets put rest =
        let a : (n : ℕ) → (n + 1) * size ≡ (n + 1) * (p.depth / 8) = λ n i. (n + 1) * ez i in
        let place : (n : ℕ) → place_of s stored n
        ≡ place_of (samples_in_chunk p.planar c) (stored_samples p) n =
        λ n i. place_of (es i) (et i) n in
        numbers_row order new same octets
        (λ n h. sym (λ i. row_number order (ez i) new (place n i)) ∙ put n (omega (arith, a n, h))
        ∙ (λ i. stored_by p.predictor (256 ^ ez i) (es i) (plain_number p.interpretation (ez i) samples) n))
        (λ b f. rest b (λ n h e. f n (omega (arith, a n, h)) (sym (λ i. b / ez i) ∙ e ∙ place n)))

-- how many samples of a pixel are output
pub shown_alone : (p : PageRecord) (c : ColorType) (n size : ℕ) → IsRead p c → 8 ≤ p.depth
    → n ≡ row_bytes p c 1 → size ≡ p.depth / 8 → n / size ≡ samples_in_chunk p.planar c
shown_alone p c n size r deep en ez =
    let e : n ≡ samples_in_chunk p.planar c * (p.depth / 8) + 0 =
    omega (arith, en, shown_bytes p c 1 (whole p c r deep).1) in
    (λ i. e i / ez i) ∙ div-mul-add (samples_in_chunk p.planar c) (p.depth / 8) 0
    (some_size (p.depth / 8) (whole p c r deep).0)
