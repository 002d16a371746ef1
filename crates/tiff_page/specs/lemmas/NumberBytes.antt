-- Rows of bytes that are written into lists of numbers.
use borrow.Rule.Slice.PartMut.{mid_of, put_mid}
use Rattle.std.proofs.Common.{◌≡◌, ℕ, zero, suc, ◌+◌, ◌-◌, ◌*◌, ◌/◌, ◌%◌, ◌^◌, ◌<◌, ◌≤◌, min, true, false, inl, inr, ⊎_elim, List, [], ◌∷◌, ◌++◌, append_assoc, length, map, take, drop, get_or, refl, ap, sym, subst, ◌∙◌, arith, Result, Ok, Err}
use Rattle.std.specs.Prelude.{◌==◌, slice_index, replicate, OnOk}
use Rattle.std.specs.Int.{div_ceil, w8, w16, w32, w64, to_le_bytes}
use Rattle.std.specs.Simd.{first_chunks}
use Rattle.std.proofs.lemmas.Bool.{cases_Bool, cases_eq, cases_lt, eqb-true}
use Rattle.std.proofs.lemmas.List.{append-nil, drop_all, length-drop, length-take-le, take-append-drop, ext_get_or, map-append, map-id, map-set, length-append, length-set, get_or-append_right, get_or_append_left, get_or-set_same, get_or-set_other, length-replicate, drop-drop, length-map, take_all, get_or-map, set_split, take_at, drop_at, take-map, drop-map}
use Rattle.std.proofs.lemmas.List.FromFn.{length-map-range_with_len, get_or-map-range_with_len, map-range_with_len_more}
use Rattle.std.proofs.lemmas.Nat.{div-add-mod', div_below, mod_below, le-div, div-mul-add, mod-mul-add, row_fits}
use Rattle.std.proofs.Math.ListN.{set}
use Rattle.std.proofs.Math.Nat.{add-mul, mul-sub, div-one, div-div-eq-div-mul, pow-suc, mod-eq_of_lt, mul-le-mul_right, mul_comm, mul-div_cancel, mul-mod_left, zero-div}
use Rattle.std.proofs.Math.Seq.{take-add}
use Rattle.tiff_base.specs.declared.tags.ByteOrder.{ByteOrder}
use Rattle.tiff_base.specs.declared.tags.ByteOrder.TheVariants.{LittleEndian}
use Rattle.tiff_base.specs.Number.{number}
use Rattle.tiff_base.specs.SourceAndSink.{AreOctets}
use Rattle.tiff_page.specs.NumberBytes.{byte_of, all_bytes, bytes_in, IsPut, whole_enough}
use Rattle.tiff_page.specs.Pixels.{tabulate, width_of, numbers_in, row_number, needed_of_row}
use Rattle.tiff_page.specs.BufferPositions.{Writes, filled_to}
use Rattle.tiff_page.specs.Row.{IsSize}
use Rattle.tiff_page.specs.lemmas.Rects.{zero_in, all_written, copied, writes_more, writes_as, writes_none, holds_put_mid, length_held}
use Rattle.tiff_page.specs.lemmas.Rows.{some_size, power_pos, bytes_of_numbers, each_same, each_at, digits, by_size, little_digits, number_lt, number_within}
use Rattle.tiff_base.specs.Answers.{IsCause}
use Rattle.tiff_base.specs.declared.color.ColorType.{ColorType}
use Rattle.tiff_base.specs.declared.error.TiffError.{TiffError}
use Rattle.tiff_page.specs.declared.chunk_data.ChunkCursor.{ChunkCursor}
use Rattle.tiff_page.specs.Page.{PageRecord}
use Rattle.tiff_page.specs.RowReads.{RowRead, TakesRow, PutsRow, RowPut}
use Rattle.tiff_page.specs.ChunkData.{bytes_left, IsTooShort}

-- ---- the bytes of a number

low_digits : (n k : ℕ) → digits (λ j. n / 256 ^ j % 256) k + 256 ^ k * (n / 256 ^ k) ≡ n
low_digits n zero = omega (arith, div-one n)
low_digits n (suc k) =
    let q : ℕ = n / 256 ^ k in
    let p : 256 ^ suc k * (n / 256 ^ suc k) ≡ 256 ^ k * 256 * (q / 256) =
    (λ i. pow-suc 256 k i * (ap (λ (m : ℕ). n / m) (pow-suc 256 k)
    ∙ sym (div-div-eq-div-mul n (256 ^ k) 256)) i) in
    omega (arith, low_digits n k, ap (λ (m : ℕ). 256 ^ k * m) (div-add-mod' q 256), p)

-- a number is the sum of its bytes
pub of_bytes : (size n : ℕ) → IsSize size → digits (byte_of size n) size ≡ n
of_bytes size n z =
    by_size (λ s. digits (byte_of s n) s ≡ n) size (low_digits n 0) (low_digits n 1)
    (low_digits n 3) (low_digits n 7) z

-- the bytes of a number of `size` bytes
byte_is : (size n j : ℕ) → n < 256 ^ size → byte_of size n j ≡ n / 256 ^ j % 256
byte_is size n j h =
    ⊎_elim
    (λ (t : (j + 1 == size) ≡ true).
    let p : 256 ^ size ≡ 256 * 256 ^ j =
    ap (λ (m : ℕ). 256 ^ m) (sym (eqb-true (j + 1) size t))
    ∙ (let s : j + 1 ≡ suc j = omega arith in ap (λ (m : ℕ). 256 ^ m) s) ∙ pow-suc 256 j
    ∙ mul_comm (256 ^ j) 256 in
    let b : n / 256 ^ j < 256 = div_below n (256 ^ j) 256 (power_pos j) (omega (arith, h, p)) in
    rw t (sym (mod-eq_of_lt b)))
    (λ (f : (j + 1 == size) ≡ false). rw f refl)
    (cases_Bool (j + 1 == size))

-- a byte of a number that is made of bytes is that byte
pub byte_back : (size : ℕ) (row : List ℕ) (k j : ℕ) → IsSize size → AreOctets row → j < size
    → byte_of size (row_number LittleEndian size row k) j ≡ get_or row (k * size + j) 0
byte_back size row k j z o h =
    byte_is size (row_number LittleEndian size row k) j (number_lt size row k z o)
    ∙ sym (bytes_of_numbers size row k j z o h)

pub bytes_1 : (n : ℕ) (r : List ℕ) → n < 2 ^ 8 → r ≡ to_le_bytes w8 n → r ≡ all_bytes 1 n
bytes_1 n r h e = e ∙ (λ i. sym (byte_is 1 n 0 h ∙ ap (λ (m : ℕ). m % 256) (div-one n)) i ∷ [])

pub bytes_2 : (n : ℕ) (r : List ℕ) → n < 2 ^ 16 → r ≡ to_le_bytes w16 n → r ≡ all_bytes 2 n
bytes_2 n r h e =
    e ∙ (λ i. sym (byte_is 2 n 0 h ∙ ap (λ (m : ℕ). m % 256) (div-one n)) i
    ∷ sym (byte_is 2 n 1 h) i ∷ [])

pub bytes_4 : (n : ℕ) (r : List ℕ) → n < 2 ^ 32 → r ≡ to_le_bytes w32 n → r ≡ all_bytes 4 n
bytes_4 n r h e =
    e ∙ (λ i. sym (byte_is 4 n 0 h ∙ ap (λ (m : ℕ). m % 256) (div-one n)) i
    ∷ sym (byte_is 4 n 1 h) i ∷ sym (byte_is 4 n 2 h) i ∷ sym (byte_is 4 n 3 h) i ∷ [])

pub bytes_8 : (n : ℕ) (r : List ℕ) → n < 2 ^ 64 → r ≡ to_le_bytes w64 n → r ≡ all_bytes 8 n
bytes_8 n r h e =
    e
    ∙ (λ i.
    sym (byte_is 8 n 0 h ∙ ap (λ (m : ℕ). m % 256) (div-one n)) i ∷ sym (byte_is 8 n 1 h) i ∷ sym (byte_is 8 n 2 h) i ∷ sym (byte_is 8 n 3 h) i ∷ sym (byte_is 8 n 4 h) i ∷ sym (byte_is 8 n 5 h) i ∷ sym (byte_is 8 n 6 h) i ∷ sym (byte_is 8 n 7 h) i ∷ [])

-- ---- the bytes of a list of numbers

pub length_bytes : (size : ℕ) (ns : List ℕ) → length (bytes_in size ns) ≡ length ns * size
unfolding bytes_in
length_bytes size ns =
    length-map-range_with_len (λ i. byte_of size (get_or ns (i / size) 0) (i % size)) 0 (length ns * size)

pub byte_at : (size : ℕ) (ns : List ℕ) (i : ℕ) → i < length ns * size
    → get_or (bytes_in size ns) i 0 ≡ byte_of size (get_or ns (i / size) 0) (i % size)
unfolding bytes_in
byte_at size ns i h =
    get_or-map-range_with_len (λ i. byte_of size (get_or ns (i / size) 0) (i % size)) 0
    (length ns * size) i i 0 h (omega arith)

-- byte j of number k
byte_in : (size : ℕ) (ns : List ℕ) (k j : ℕ) → k < length ns → j < size
    → get_or (bytes_in size ns) (k * size + j) 0 ≡ byte_of size (get_or ns k 0) j
byte_in size ns k j h w =
    byte_at size ns (k * size + j) (omega (arith, row_fits k size (length ns) size h (omega arith), w))
    ∙ (λ i. byte_of size (get_or ns (div-mul-add k size j w i) 0) (mod-mul-add k size j w i))

-- two lists of the bytes of `count` numbers
same_bytes : (size count : ℕ) (xs ys : List ℕ) → 0 < size → length xs ≡ count * size
    → length ys ≡ count * size
    → ((k j : ℕ) → k < count → j < size → get_or xs (k * size + j) 0 ≡ get_or ys (k * size + j) 0)
    → xs ≡ ys
same_bytes size count xs ys s lx ly e =
    ext_get_or 0 xs ys (lx ∙ sym ly)
    (λ i b.
    subst (λ (n : ℕ). get_or xs n 0 ≡ get_or ys n 0) (div-add-mod' i size) (e (i / size) (i % size) (div_below i size count s (omega (arith, b, lx))) (mod_below i size s)))

-- the bytes of two lists, one after the other
bytes_append : (size : ℕ) (ns ms : List ℕ) → 0 < size
    → bytes_in size (ns ++ ms) ≡ bytes_in size ns ++ bytes_in size ms
bytes_append size ns ms s =
    let long : length (ns ++ ms) ≡ length ns + length ms = length-append ns ms in
    let front : length (bytes_in size ns) ≡ length ns * size = length_bytes size ns in
    same_bytes size (length ns + length ms) (bytes_in size (ns ++ ms)) (bytes_in size ns
    ++ bytes_in size ms) s
    (length_bytes size (ns ++ ms) ∙ ap (λ (m : ℕ). m * size) long)
    (length-append (bytes_in size ns) (bytes_in size ms) ∙ (λ t. front t + length_bytes size ms t)
    ∙ sym (add-mul (length ns) (length ms) size))
    (λ k j h w.
    byte_in size (ns ++ ms) k j (omega (arith, h, long)) w
    ∙ ⊎_elim
    (λ (a : k < length ns).
    ap (λ (x : ℕ). byte_of size x j) (get_or_append_left ns ms 0 k a)
    ∙ sym (byte_in size ns k j a w)
    ∙ sym (get_or_append_left (bytes_in size ns) (bytes_in size ms) 0 (k * size + j) (omega (arith, row_fits k size (length ns) size a (omega arith), w, front))))
    (λ (a : length ns ≤ k).
    let m : ℕ = k - length ns in
    let parts : k * size ≡ length ns * size + m * size =
    (let e : k ≡ length ns + m = omega (arith, a) in ap (λ (n : ℕ). n * size) e)
    ∙ add-mul (length ns) m size in
    let there : m * size + j ≡ k * size + j - length ns * size = omega (arith, parts) in
    ap (λ (x : ℕ). byte_of size x j) (get_or-append_right ns ms (length ns) k 0 refl a)
    ∙ sym (byte_in size ms m j (omega (arith, h, a)) w)
    ∙ ap (λ (n : ℕ). get_or (bytes_in size ms) n 0) there
    ∙ sym (get_or-append_right (bytes_in size ns) (bytes_in size ms) (length ns * size) (k * size + j) 0 front (omega (arith, parts))))
    (cases_lt k (length ns)))

-- the bytes of the first numbers, and of the others
bytes_split : (size k : ℕ) (ns : List ℕ) → 0 < size → k ≤ length ns
    → (bytes_in size (take k ns) ≡ take (k * size) (bytes_in size ns))
    × (bytes_in size (drop k ns) ≡ drop (k * size) (bytes_in size ns))
bytes_split size k ns s h =
    let front : List ℕ = bytes_in size (take k ns) in
    let rest : List ℕ = bytes_in size (drop k ns) in
    let l : length front ≡ k * size =
    length_bytes size (take k ns) ∙ ap (λ (m : ℕ). m * size) (length-take-le k ns h) in
    let all : front ++ rest ≡ bytes_in size ns =
    sym (bytes_append size (take k ns) (drop k ns) s)
    ∙ ap (bytes_in size) (take-append-drop k ns) in
    (sym (take_at front rest (k * size) l) ∙ ap (take (k * size)) all, sym (drop_at front rest (k * size) l) ∙ ap (drop (k * size)) all)

-- a row of whole numbers has the bytes of its numbers
row_is : (size count : ℕ) (row : List ℕ) → IsSize size → AreOctets row → length row ≡ count * size
    → bytes_in size (tabulate count (row_number LittleEndian size row)) ≡ row
row_is size count row z o l =
    let f : ℕ → ℕ = row_number LittleEndian size row in
    let n : length (tabulate count f) ≡ count = length-map-range_with_len f 0 count in
    same_bytes size count (bytes_in size (tabulate count f)) row (some_size size z)
    (length_bytes size (tabulate count f) ∙ ap (λ (m : ℕ). m * size) n) l
    (λ k j h w.
    byte_in size (tabulate count f) k j (omega (arith, h, n)) w ∙ ap (λ (x : ℕ). byte_of size x j) (get_or-map-range_with_len f 0 count k k 0 h (omega arith)) ∙ byte_back size row k j z o w)

-- the numbers that a list's bytes hold are the list
pub numbers_again : (size : ℕ) (ns : List ℕ) → IsSize size → numbers_in size (bytes_in size ns) ≡ ns
unfolding numbers_in
numbers_again size ns z =
    let s : 0 < size = some_size size z in
    let bytes : List ℕ = bytes_in size ns in
    let f : ℕ → ℕ =
    λ n. number LittleEndian (width_of size) (tabulate size (λ j. get_or bytes (n * size
    + j) 0)) in
    let count : div_ceil (length ns * size) size ≡ length ns =
    by_size (λ m. div_ceil (length ns * m) m ≡ length ns) size (omega arith) (omega arith)
    (omega arith) (omega arith) z in
    let l : length (tabulate (div_ceil (length bytes) size) f) ≡ length ns =
    length-map-range_with_len f 0 (div_ceil (length bytes) size)
    ∙ (ap (λ (m : ℕ). div_ceil m size) (length_bytes size ns) ∙ count) in
    ext_get_or 0 (tabulate (div_ceil (length bytes) size) f) ns l
    (λ k b.
    let h : k < length ns = omega (arith, b, l) in
    let c : k < div_ceil (length bytes) size =
    omega (arith, h, ap (λ (m : ℕ). div_ceil m size) (length_bytes size ns), count) in
    get_or-map-range_with_len f 0 (div_ceil (length bytes) size) k k 0 c (omega arith)
    ∙ ap (number LittleEndian (width_of size)) (each_same size (λ j. get_or bytes (k * size
    + j) 0) (byte_of size (get_or ns k 0))
    (λ j w.
    byte_in size ns k j h w))
    ∙ little_digits size (byte_of size (get_or ns k 0)) z ∙ of_bytes size (get_or ns k 0) z)

-- the number to which a byte belongs is in the list
pub number_there : {X : Type 0} (bits : X → ℕ) (size at : ℕ) (xs : List X) → 0 < size
    → at < length (bytes_in size (map bits xs)) → at / size < length xs
number_there bits size at xs s h =
    div_below at size (length xs) s (omega (arith, h, length_bytes size (map bits xs), ap (λ (m : ℕ). m * size) (length-map xs bits)))

-- the bytes of zeros
pub zeros_in : (size n : ℕ) (ns : List ℕ) → IsSize size → ns ≡ replicate n 0
    → bytes_in size ns ≡ replicate (n * size) 0
zeros_in size n ns z e =
    let count : length ns ≡ n = ap (λ (xs : List ℕ). length xs) e ∙ length-replicate n 0 in
    same_bytes size n (bytes_in size ns) (replicate (n * size) 0) (some_size size z)
    (length_bytes size ns ∙ ap (λ (m : ℕ). m * size) count) (length-replicate (n * size) 0)
    (λ k j h w.
    byte_in size ns k j (omega (arith, h, count)) w
    ∙ ap (λ (x : ℕ). byte_of size x j) (ap (λ (xs : List ℕ). get_or xs k 0) e ∙ zero_in n k)
    ∙ byte_is size 0 j (power_pos size) ∙ ap (λ (m : ℕ). m % 256) (zero-div (256 ^ j)) ∙ sym (zero_in (n * size) (k * size + j)))

-- ---- whole numbers are written

of_whole : (n size : ℕ) → n % size ≡ 0 → n ≡ n / size * size
of_whole n size h = omega (arith, h, div-add-mod' n size)

-- the numbers are in the list
pub numbers_fit : {X : Type 0} (bits : X → ℕ) (size at len : ℕ) (xs : List X) → 0 < size
    → at % size ≡ 0 → len % size ≡ 0 → at + len ≤ length (bytes_in size (map bits xs))
    → at / size + len / size ≤ length xs
numbers_fit bits size at len xs s a l h =
    let b : (at / size + len / size) * size ≤ length xs * size =
    omega (arith, h, (length_bytes size (map bits xs) ∙ ap (λ (m : ℕ). m * size) (length-map xs bits)), of_whole at size a, of_whole len size l) in
    omega (arith, le-div (at / size + len / size) (length xs * size) size s b, mul-div_cancel (length xs) s)

piece_at : (size count : ℕ) (bytes : List ℕ) (n : ℕ) (d : List ℕ) → n < count
    → get_or (first_chunks size count bytes) n d ≡ take size (drop (n * size) bytes)
piece_at size zero bytes n d h = absurd (omega arith)
piece_at size (suc count) bytes zero d h =
    let e : 0 * size ≡ 0 = omega arith in ap (λ (k : ℕ). take size (drop k bytes)) (sym e)
piece_at size (suc count) bytes (suc n) d h =
    let e : size + n * size ≡ suc n * size = omega arith in
    piece_at size count (drop size bytes) n d (omega arith)
    ∙ ap (take size) (drop-drop (n * size) size bytes ∙ ap (λ (k : ℕ). drop k bytes) e)

-- the number of a piece of a row
module _ {X : Type 0} (bits : X → ℕ) (size k : ℕ) (row : List ℕ) (x : X) (pieces : List (List ℕ))
    (piece d : List ℕ) (are : pieces ≡ first_chunks size (length row / size) row)
    (h : k < length row / size) (here : piece ≡ get_or pieces k d)
    (is : bits x ≡ number LittleEndian (width_of size) piece) where
  piece_number : bits x ≡ row_number LittleEndian size row k
  piece_number =
      is
      ∙ ap (number LittleEndian (width_of size))
      (here ∙ (ap (λ (ps : List (List ℕ)). get_or ps k d) are
      ∙ (piece_at size (length row / size) row k d h ∙ sym (each_at size k row (number_within k size (length row) h)))))

  -- one more number is written
  pub placed_more : (old mid new : List X) → k < length mid → new ≡ set mid k x
      → map bits mid ≡ tabulate k (row_number LittleEndian size row) ++ drop k (map bits old)
      → map bits new ≡ tabulate (k + 1) (row_number LittleEndian size row)
      ++ drop (k + 1) (map bits old)
  placed_more old mid new in_list more done =
      let f : ℕ → ℕ = row_number LittleEndian size row in
      let ys : List ℕ = drop k (map bits old) in
      let l : length (tabulate k f) ≡ k = length-map-range_with_len f 0 k in
      let rest : drop (suc k) (tabulate k f ++ ys) ≡ drop (k + 1) (map bits old) =
      (let e : suc k ≡ k + 1 = omega arith in ap (λ (n : ℕ). drop n (tabulate k f ++ ys)) e)
      ∙ sym (drop-drop 1 k (tabulate k f ++ ys)) ∙ ap (drop 1) (drop_at (tabulate k f) ys k l)
      ∙ drop-drop 1 k (map bits old) in
      ap (map bits) more ∙ map-set bits mid k x
      ∙ set_split (map bits mid) k (bits x) (omega (arith, in_list, length-map mid bits))
      ∙ ap (λ (zs : List ℕ). take k zs ++ bits x ∷ drop (suc k) zs) done
      ∙ (λ t. take_at (tabulate k f) ys k l t ++ piece_number t ∷ rest t)
      ∙ sym (append_assoc (tabulate k f) (f k ∷ []) (drop (k + 1) (map bits old)))
      ∙ ap (λ (xs : List ℕ). xs ++ drop (k + 1) (map bits old)) (sym (map-range_with_len_more f 0 k k (omega arith)))

  -- one more number is appended
  pub pushed_more : (old mid new : List X) → new ≡ mid ++ x ∷ []
      → map bits mid ≡ map bits old ++ tabulate k (row_number LittleEndian size row)
      → map bits new ≡ map bits old ++ tabulate (k + 1) (row_number LittleEndian size row)
  pushed_more old mid new more done =
      let f : ℕ → ℕ = row_number LittleEndian size row in
      ap (map bits) more ∙ map-append bits mid (x ∷ [])
      ∙ (λ t. done t ++ piece_number t ∷ [])
      ∙ append_assoc (map bits old) (tabulate k f) (f k ∷ [])
      ∙ ap (λ (xs : List ℕ). map bits old ++ xs) (sym (map-range_with_len_more f 0 k k (omega arith)))

-- a row of whole numbers is put into the bytes of a list, if its numbers are put into the list
row_put : (size first count : ℕ) (row old new : List ℕ) → IsSize size → AreOctets row
    → length row ≡ count * size → first + count ≤ length old
    → new ≡ take first old ++ (tabulate count (row_number LittleEndian size row)
    ++ drop (first + count) old) → IsPut (first * size) row (bytes_in size old) (bytes_in size new)
row_put size first count row old new z o l h e =
    let s : 0 < size = some_size size z in
    let more : List ℕ = tabulate count (row_number LittleEndian size row) in
    let rest : List ℕ = drop (first + count) old in
    let end : (first + count) * size ≡ first * size + length row =
    add-mul first count size ∙ ap (λ (n : ℕ). first * size + n) (sym l) in
    copied (bytes_in size old) row (bytes_in size new) (first * size)
    (omega (arith, mul-le-mul_right size h, end, length_bytes size old))
    (ap (bytes_in size) e ∙ bytes_append size (take first old) (more ++ rest) s
    ∙ (λ t. (bytes_split size first old s (omega (arith, h))).0 t
    ++ bytes_append size more rest s t)
    ∙ (λ t. take (first * size) (bytes_in size old) ++ (row_is size count row z o l t ++ ((bytes_split size (first + count) old s h).1 ∙ ap (λ (n : ℕ). drop n (bytes_in size old)) end) t)))

-- the list after a write to its rest, as a goal has it
pub row_put_whole : {X : Type 0} (bits : X → ℕ) (size at : ℕ) (row : List ℕ) (old mid : List X)
    → IsSize size → AreOctets row → at % size ≡ 0 → length row % size ≡ 0
    → at / size + length row / size ≤ length old
    → map bits mid ≡ tabulate (length row / size) (row_number LittleEndian size row)
    ++ drop (length row / size) (map bits (mid_of (at / size) (length old - at / size) old))
    → IsPut at row (bytes_in size (map bits old)) (bytes_in size (map bits (put_mid (at / size) (length old - at / size) old mid)))
row_put_whole {X = X} bits size at row old mid z o a l h w =
    let first : ℕ = at / size in
    let count : ℕ = length row / size in
    let rest : length (drop first old) ≡ length old - first = length-drop first old in
    let all : mid_of first (length old - first) old ≡ drop first old =
    take_all (length old - first) (drop first old) (omega (arith, rest)) in
    let none : put_mid first (length old - first) old mid ≡ take first old ++ mid =
    ap (λ xs. take first old ++ (mid ++ xs)) (drop_all (length old - first) (drop first old) (omega (arith, rest))) ∙ ap (λ xs. take first old ++ xs) (append-nil mid) in
    let behind : drop count (map bits (mid_of first (length old - first) old))
    ≡ drop (first + count) (map bits old) =
    ap (λ (xs : List X). drop count (map bits xs)) all
    ∙ ap (drop count) (sym (drop-map bits first old)) ∙ drop-drop count first (map bits old) in
    subst (λ (n : ℕ). IsPut n row (bytes_in size (map bits old)) (bytes_in size (map bits (put_mid first (length old - first) old mid)))) (sym (of_whole at size a))
    (row_put size first count row (map bits old) (map bits (put_mid first (length old - first) old mid)) z o (of_whole (length row) size l) (omega (arith, h, length-map old bits))
    (ap (map bits) none ∙ map-append bits (take first old) mid ∙ (λ t. sym (take-map bits first old) t ++ (w ∙ ap (λ (xs : List ℕ). (tabulate count (row_number LittleEndian size row)) ++ xs) behind) t)))

-- ---- single bytes are written

pub set_octets : (xs : List ℕ) (i b : ℕ) → AreOctets xs → b < 256 → AreOctets (set xs i b)
set_octets [] i b o h k = o k
set_octets (x ∷ xs) zero b o h zero = h
set_octets (x ∷ xs) zero b o h (suc k) = o (suc k)
set_octets (x ∷ xs) (suc i) b o h zero = o zero
set_octets (x ∷ xs) (suc i) b o h (suc k) = set_octets xs i b (λ j. o (suc j)) h k

pub byte_put : {X : Type 0} (bits : X → ℕ) (size at byte : ℕ) (bytes : List ℕ) (old new : List X)
    (y d x : X) (all : List ℕ) → IsSize size → AreOctets bytes → at / size < length old
    → y ≡ get_or old (at / size) d → all ≡ all_bytes size (bits y)
    → bytes ≡ set all (at % size) byte → bits x ≡ number LittleEndian (width_of size) bytes
    → new ≡ set old (at / size) x
    → IsPut at (byte ∷ []) (bytes_in size (map bits old)) (bytes_in size (map bits new))
byte_put bits size at byte bytes old new y d x given z o in_list found told set_in is more =
    let s : 0 < size = some_size size z in
    let q : ℕ = at / size in
    let r : ℕ = at % size in
    let ns : List ℕ = map bits old in
    let here : q < length ns = omega (arith, in_list, length-map old bits) in
    let place : q * size + r ≡ at = div-add-mod' at size in
    let full : length given ≡ size =
    ap (λ (xs : List ℕ). length xs) told
    ∙ length-map-range_with_len (byte_of size (bits y)) 0 size in
    let long : length bytes ≡ 1 * size =
    ap (λ (xs : List ℕ). length xs) set_in ∙ length-set given r byte ∙ omega (arith, full) in
    let was : (j : ℕ) → j < size → get_or given j 0 ≡ get_or (bytes_in size ns) (q * size + j) 0 =
    λ j h.
    ap (λ (xs : List ℕ). get_or xs j 0) told
    ∙ get_or-map-range_with_len (byte_of size (bits y)) 0 size j j 0 h (omega arith)
    ∙ ap (λ (n : ℕ). byte_of size n j) (ap bits found ∙ sym (get_or-map bits old q d 0 in_list))
    ∙ sym (byte_in size ns q j here h) in
    let one : bits x ≡ row_number LittleEndian size bytes 0 =
    is ∙ ap (number LittleEndian (width_of size)) (sym (each_at size 0 bytes (omega (arith, long))
    ∙ (let e : 0 * size ≡ 0 = omega arith in ap (λ (m : ℕ). take size (drop m bytes)) e) ∙ take_all size bytes (omega (arith, long)))) in
    let put : IsPut (q * size) bytes (bytes_in size ns) (bytes_in size (map bits new)) =
    row_put size q 1 bytes ns (map bits new) z o long (omega (arith, here))
    (ap (map bits) more ∙ map-set bits old q x ∙ set_split ns q (bits x) here
    ∙ (let e : suc q ≡ q + 1 = omega arith in λ t. take q ns ++ one t ∷ drop (e t) ns)) in (
      put.0,
      λ i l.
          ⊎_elim
          (λ (e : i ≡ at).
          inl (
            (omega (arith, e), omega (arith, e)),
            ⊎_elim
                (λ p. p.1 ∙ (let j : i - q * size ≡ r = omega (arith, e, place) in ap (λ (m : ℕ). get_or bytes m 0) j) ∙ ap (λ (xs : List ℕ). get_or xs r 0) set_in
                ∙ get_or-set_same given r byte 0 (omega (arith, full, mod_below at size s)) ∙ (let k : 0 ≡ i - at = omega (arith, e) in ap (λ (m : ℕ). get_or (byte ∷ []) m 0) k))
                (λ p. Prim.absurd (p.0 (omega (arith, e, place), omega (arith, e, place, long, mod_below at size s))))
                (put.1 i l),
          ))
          (λ (n : i ≡ at → ⊥).
          inr (
            λ p. n (omega (arith, p.0, p.1)),
            ⊎_elim
                (λ p.
                let j : ℕ = i - q * size in
                let k : q * size + j ≡ i = omega (arith, p.0.0) in
                p.1 ∙ ap (λ (xs : List ℕ). get_or xs j 0) set_in
                ∙ get_or-set_other given r j byte 0 (λ e. n (omega (arith, e, k, place)))
                ∙ was j (omega (arith, p.0.1, k, long)) ∙ ap (λ (m : ℕ). get_or (bytes_in size ns) m 0) k)
                (λ p. p.1)
                (put.1 i l),
          ))
          (cases_eq i at),
    )

-- no byte is written yet
pub none_put : (at : ℕ) (row old : List ℕ)
    → Writes (λ i. (at ≤ i) × (i < at + 0)) (λ i. slice_index row (i - at)) old old
none_put at row old =
    writes_none (λ i. (at ≤ i) × (i < at + 0)) (λ i. slice_index row (i - at)) old
    (λ i p. absurd (omega (arith, p.0, p.1)))

-- one more byte is written
pub put_more : (at k byte : ℕ) (row old mid new : List ℕ) → byte ≡ get_or row k 0
    → Writes (λ i. (at ≤ i) × (i < at + k)) (λ i. slice_index row (i - at)) old mid
    → IsPut (at + k) (byte ∷ []) mid new
    → Writes (λ i. (at ≤ i) × (i < at + (k + 1))) (λ i. slice_index row (i - at)) old new
put_more at k byte row old mid new e w v =
    writes_more (λ i. (at ≤ i) × (i < at + k)) (λ i. (at + k ≤ i) × (i < at + k + 1)) (λ i. (at ≤ i)
    × (i < at + (k + 1))) (λ i. get_or row (i - at) 0) old mid new
    (λ i p. (p.0, omega (arith, p.1)))
    (λ i q. (omega (arith, q.0), omega (arith, q.1)))
    (λ i r. ⊎_elim (λ (a : i < at + k). inl (r.0, a)) (λ (a : at + k ≤ i). inr (a, omega (arith, r.1))) (cases_lt i (at + k)))
    w
    (writes_as (λ i. (at + k ≤ i) × (i < at + k + 1)) (λ i. get_or (byte
    ∷ []) (i - (at + k)) 0) (λ i. get_or row (i - at) 0) mid new
    (λ i q.
    let a : i - (at + k) ≡ 0 = omega (arith, q.0, q.1) in
    let b : k ≡ i - at = omega (arith, q.0, q.1) in
    ap (λ (m : ℕ). get_or (byte ∷ []) m 0) a ∙ (e ∙ ap (λ (m : ℕ). get_or row m 0) b)) v)

-- ---- lists of numbers as the decoder returns them

map_replicate : {A : Type 0} (f : A → ℕ) (x : A) (n : ℕ) → map f (replicate n x) ≡ replicate n (f x)
map_replicate f x zero = refl
map_replicate f x (suc n) = ap (λ (ys : List ℕ). f x ∷ ys) (map_replicate f x n)

-- numbers that are all 0
pub zeros_mapped : {A : Type 0} (f : A → ℕ) (x : A) (xs : List A) (n : ℕ) → f x ≡ 0
    → xs ≡ replicate n x → map f xs ≡ replicate n 0
zeros_mapped f x xs n z e = ap (map f) e ∙ map_replicate f x n ∙ ap (replicate n) z

-- ---- zeros after a list

pub zeros_behind : {A : Type 0} (f : A → ℕ) (x : A) (old new : List A) (n : ℕ) → f x ≡ 0
    → new ≡ old ++ replicate n x → map f new ≡ map f old ++ replicate n 0
zeros_behind f x old new n z e =
    ap (map f) e ∙ map-append f old (replicate n x)
    ∙ ap (λ ys. map f old ++ ys) (zeros_mapped f x (replicate n x) n z refl)

pub no_zeros_behind : {A : Type 0} (f : A → ℕ) (old new : List A) (n : ℕ) → new ≡ old → n ≡ 0
    → map f new ≡ map f old ++ replicate n 0
no_zeros_behind f old new n e z =
    ap (map f) e ∙ sym (append-nil (map f old)) ∙ ap (λ k. map f old ++ replicate k 0) (sym z)

-- the bytes of zeros after a list follow its bytes
bytes_behind : (size : ℕ) (ns : List ℕ) (n : ℕ) → IsSize size
    → bytes_in size (ns ++ replicate n 0) ≡ bytes_in size ns ++ replicate (n * size) 0
bytes_behind size ns n z =
    bytes_append size ns (replicate n 0) (some_size size z)
    ∙ ap (λ (xs : List ℕ). bytes_in size ns ++ xs) (zeros_in size n (replicate n 0) z refl)

less-times : (m n size : ℕ) → (m - n) * size ≡ m * size - n * size
less-times m n size =
    mul_comm (m - n) size ∙ mul-sub size m n ∙ (λ t. mul_comm size m t - mul_comm size n t)

-- a list that grew by zeros, seen as bytes
pub zero_bytes_behind : (size : ℕ) (old new : List ℕ) (count : ℕ) → IsSize size
    → new ≡ old ++ replicate (count - length old) 0
    → bytes_in size new ≡ bytes_in size old
    ++ replicate (count * size - length (bytes_in size old)) 0
zero_bytes_behind size old new count z e =
    ap (bytes_in size) e ∙ bytes_behind size old (count - length old) z
    ∙ ap (λ (k : ℕ). bytes_in size old ++ replicate k 0) (less-times count (length old) size
    ∙ ap (λ (k : ℕ). count * size - k) (sym (length_bytes size old)))

-- the result of a call that grows a list, seen as bytes
pub grown_bytes : {X E T : Type 0} (r : Result X E) (size : ℕ) (bits : T → ℕ) (old new : List T)
    (count len : ℕ) → IsSize size → count ≡ div_ceil len size
    → OnOk r (map bits new ≡ map bits old ++ replicate (count - length old) 0)
    → OnOk r (bytes_in size (map bits new) ≡ bytes_in size (map bits old)
    ++ replicate (div_ceil len size * size - length (bytes_in size (map bits old))) 0)
grown_bytes (Err e) size bits old new count len z c h = tt
grown_bytes (Ok x) size bits old new count len z c h =
    zero_bytes_behind size (map bits old) (map bits new) count z (h
    ∙ ap (λ (k : ℕ). map bits old ++ replicate (count - k) 0) (sym (length-map old bits)))
    ∙ ap (λ (k : ℕ). bytes_in size (map bits old)
    ++ replicate (k * size - length (bytes_in size (map bits old))) 0) c

pub plain_zeros_behind : (old new : List ℕ) (n : ℕ)
    → map (λ (x : ℕ). x) new ≡ map (λ (x : ℕ). x) old ++ replicate n 0 → new ≡ old ++ replicate n 0
plain_zeros_behind old new n e =
    sym (map-id new) ∙ e ∙ ap (λ (xs : List ℕ). xs ++ replicate n 0) (map-id old)

-- ---- rows of whole numbers behind a list

-- numbers that a row of whole numbers holds follow a list as the row follows its bytes
pub numbers_behind : (size count : ℕ) (row ns ms : List ℕ) → IsSize size → AreOctets row
    → length row ≡ count * size
    → ms ≡ ns ++ tabulate count (row_number LittleEndian size row)
    → bytes_in size ms ≡ bytes_in size ns ++ row
numbers_behind size count row ns ms z o l e =
    ap (bytes_in size) e ∙ bytes_append size ns (tabulate count (row_number LittleEndian size row))
    (some_size size z) ∙ ap (λ (xs : List ℕ). bytes_in size ns
    ++ xs) (row_is size count row z o l)

-- The next piece of a row of whole numbers has whole numbers too, and a list with room for the rest
-- of the row has room for the piece and then for what is left.
pub record IsPiece (size at more have room : ℕ) (row piece : List ℕ) : Type 0 where
  pub bytes : piece ≡ take more (drop at row)
  pub whole : length piece / size * size ≡ length piece
  pub fits : have + length piece / size ≤ room
  pub next : (at + more) / size * size ≡ at + more
  pub rest : have + length piece / size + (length row - (at + more)) / size ≤ room

piece_numbers : (size at more len have room : ℕ) → IsSize size → len / size * size ≡ len
    → at / size * size ≡ at → at < len → more ≡ min 4096 (len - at)
    → have + (len - at) / size ≤ room
    → (more / size * size ≡ more) × ((at + more) / size * size ≡ at + more)
    × (have + more / size + (len - (at + more)) / size ≤ room)
piece_numbers size at more len have room z =
    by_size
    (λ (s : ℕ).
    len / s * s ≡ len → at / s * s ≡ at → at < len → more ≡ min 4096 (len - at)
    → have + (len - at) / s ≤ room
    → (more / s * s ≡ more) × ((at + more) / s * s ≡ at + more) × (have + more / s + (len - (at + more)) / s ≤ room))
    size
    (λ l a b m r. (omega (arith, l, a, b, m), omega (arith, l, a, b, m), omega (arith, l, a, b, m, r)))
    (λ l a b m r. (omega (arith, l, a, b, m), omega (arith, l, a, b, m), omega (arith, l, a, b, m, r)))
    (λ l a b m r. (omega (arith, l, a, b, m), omega (arith, l, a, b, m), omega (arith, l, a, b, m, r)))
    (λ l a b m r. (omega (arith, l, a, b, m), omega (arith, l, a, b, m), omega (arith, l, a, b, m, r)))
    z

pub next_piece : (size at more have room : ℕ) (row : List ℕ) → IsSize size
    → length row / size * size ≡ length row → at / size * size ≡ at → at < length row
    → more ≡ min 4096 (length row - at) → have + (length row - at) / size ≤ room
    → IsPiece size at more have room row (take (at + more - at) (drop at row))
next_piece size at more have room row z l a b m r =
    let p = piece_numbers size at more (length row) have room z l a b m r in
    let e : at + more - at ≡ more = omega arith in
    let bytes : take (at + more - at) (drop at row) ≡ take more (drop at row) =
    ap (λ (n : ℕ). take n (drop at row)) e in
    let long : length (take (at + more - at) (drop at row)) ≡ more =
    ap (λ (xs : List ℕ). length xs) bytes
    ∙ length-take-le more (drop at row) (omega (arith, b, m, length-drop at row)) in
    let count = ap (λ (n : ℕ). n / size) long in
    record {
      bytes = bytes;
      whole = (λ t. count t * size) ∙ p.0 ∙ sym long;
      fits = omega (arith, p.2, count);
      next = p.1;
      rest = omega (arith, p.2, count);
    }

-- the bytes of the next piece follow
pub piece_behind : (at more : ℕ) (row piece old mid new : List ℕ) → piece ≡ take more (drop at row)
    → mid ≡ old ++ take at row → new ≡ mid ++ piece → new ≡ old ++ take (at + more) row
piece_behind at more row piece old mid new is e f =
    f ∙ (λ t. e t ++ is t) ∙ append_assoc old (take at row) (take more (drop at row))
    ∙ ap (λ (xs : List ℕ). old ++ xs) (sym (take-add at more row))

-- a row that follows a list's bytes is written at their end
row_behind : (at : ℕ) (row old new : List ℕ) → length old ≡ at → new ≡ old ++ row
    → IsPut at row (old ++ replicate (length row) 0) new
row_behind at row old new l e =
    let zeros : List ℕ = replicate (length row) 0 in
    let all : length (old ++ zeros) ≡ at + length row =
    length-append old zeros ∙ (λ t. l t + length-replicate {A = ℕ} (length row) 0 t) in
    copied (old ++ zeros) row new at (omega (arith, all))
    (e ∙ (λ t. sym (take_at old zeros at l) t
    ++ (sym (append-nil row) ∙ ap (λ (xs : List ℕ). row ++ xs) (sym (drop_all (at + length row) (old ++ zeros) (omega (arith, all))))) t))

whole_sum : (size count len : ℕ) → IsSize size → len % size ≡ 0
    → div_ceil (count * size + len) size * size ≡ count * size + len
whole_sum size count len z =
    by_size (λ (s : ℕ). len % s ≡ 0 → div_ceil (count * s + len) s * s ≡ count * s + len) size
    (λ e. omega (arith, e)) (λ e. omega (arith, e)) (λ e. omega (arith, e)) (λ e. omega (arith, e)) z

-- a row of whole numbers that follows a list's bytes is written among the zeros after them
pub row_pushed : {E T : Type 0} (r : Result (Unit {0}) E) (bits : T → ℕ) (size at : ℕ)
    (row : List ℕ) (old new : List T) → IsSize size → length (bytes_in size (map bits old)) ≡ at
    → length row % size ≡ 0 → OnOk r (bytes_in size (map bits new) ≡ bytes_in size (map bits old)
    ++ row)
    → OnOk r (IsPut at row (filled_to (div_ceil (at + length row) size * size) (bytes_in size (map bits old))) (bytes_in size (map bits new)))
row_pushed (Err e) bits size at row old new z l w h = tt
row_pushed (Ok x) bits size at row old new z l w h =
    let bytes : List ℕ = bytes_in size (map bits old) in
    let count : ℕ = length (map bits old) in
    let a : count * size ≡ at = sym (length_bytes size (map bits old)) ∙ l in
    let all : div_ceil (at + length row) size * size ≡ at + length row =
    ap (λ (m : ℕ). div_ceil (m + length row) size * size) (sym a)
    ∙ whole_sum size count (length row) z w ∙ ap (λ (m : ℕ). m + length row) a in
    let rest : length row ≡ div_ceil (at + length row) size * size - length bytes =
    omega (arith, all, l) in
    subst (λ (k : ℕ). IsPut at row (bytes ++ replicate k 0) (bytes_in size (map bits new))) rest
    (row_behind at row bytes (bytes_in size (map bits new)) l h)

-- a list ends at its last byte
pub ends_there : {X : Type 0} (bits : X → ℕ) (size at : ℕ) (xs : List X) → 0 < size
    → (at % size ≡ 0) × (length xs ≡ at / size) → length (bytes_in size (map bits xs)) ≡ at
ends_there bits size at xs s h =
    length_bytes size (map bits xs) ∙ ap (λ (m : ℕ). m * size) (length-map xs bits ∙ h.1)
    ∙ sym (of_whole at size h.0)

pub ends_back : {X : Type 0} (bits : X → ℕ) (size at : ℕ) (xs : List X) → 0 < size
    → length (bytes_in size (map bits xs)) ≡ at → (at % size ≡ 0) × (length xs ≡ at / size)
ends_back bits size at xs s e =
    let all : length xs * size ≡ at =
    sym (length_bytes size (map bits xs) ∙ ap (λ (m : ℕ). m * size) (length-map xs bits)) ∙ e in
    (ap (λ (m : ℕ). m % size) (sym all) ∙ mul-mod_left (length xs) size, sym (mul-div_cancel (length xs) s) ∙ ap (λ (m : ℕ). m / size) all)

-- a list that grew for a row, and the row that is written into it
module _ {T : Type 0} (bits : T → ℕ) (size at count : ℕ) (row : List ℕ) (old grown now : List T)
    (z : IsSize size) (enough : count ≡ div_ceil (at + length row) size)
    (grew : map bits grown ≡ map bits old ++ replicate (count - length old) 0) (is : now ≡ grown) where
  grown_is : bytes_in size (map bits now)
      ≡ filled_to (div_ceil (at + length row) size * size) (bytes_in size (map bits old))
  grown_is =
      ap (λ (xs : List T). bytes_in size (map bits xs)) is
      ∙ zero_bytes_behind size (map bits old) (map bits grown) count z (grew
      ∙ ap (λ (k : ℕ). map bits old ++ replicate k 0) (ap (λ (k : ℕ). count - k) (sym (length-map old bits))))
      ∙ ap (λ (k : ℕ). filled_to (k * size) (bytes_in size (map bits old))) enough

  pub row_has_room : at + length row ≤ length (bytes_in size (map bits now))
  row_has_room =
      let bytes : List ℕ = bytes_in size (map bits old) in
      let whole : ℕ = div_ceil (at + length row) size * size in
      let long : length (bytes_in size (map bits now)) ≡ length bytes + (whole - length bytes) =
      ap (λ (xs : List ℕ). length xs) grown_is
      ∙ length-append bytes (replicate (whole - length bytes) 0)
      ∙ ap (λ (k : ℕ). length bytes + k) (length-replicate {A = ℕ} (whole - length bytes) 0) in
      omega (arith, long, (whole_enough size z (at + length row) (at + length row) (omega arith)).0)

  pub row_put_grown : (put : List T) (n : ℕ) → length put ≡ n
      → IsPut at row (bytes_in size (map bits now)) (bytes_in size (map bits put))
      → IsPut at row (filled_to (div_ceil (at + length row) size * size) (bytes_in size (map bits old))) (bytes_in size (map bits (take n (put ++ drop (length put) grown))))
  row_put_grown put n all w =
      subst (λ (xs : List ℕ). IsPut at row xs (bytes_in size (map bits (take n (put ++ drop (length put) grown))))) grown_is
      (subst (λ (xs : List T). IsPut at row (bytes_in size (map bits now)) (bytes_in size (map bits xs))) (all_written put grown n all) w)

-- ---- lists of bytes

plain_bytes : (ns : List ℕ) → bytes_in 1 (map (λ (x : ℕ). x) ns) ≡ ns
plain_bytes ns =
    let one : length ns * 1 ≡ length ns = omega arith in
    ap (bytes_in 1) (map-id ns)
    ∙ ext_get_or 0 (bytes_in 1 ns) ns (length_bytes 1 ns ∙ one)
    (λ i b.
    let h : i < length ns * 1 = omega (arith, b, length_bytes 1 ns) in
    let m : i % 1 ≡ 0 = omega arith in
    byte_at 1 ns i h ∙ ap (byte_of 1 (get_or ns (i / 1) 0)) m ∙ div-one (get_or ns (i / 1) 0) ∙ ap (λ (k : ℕ). get_or ns k 0) (div-one i))

-- a row that is written into a list of bytes
pub plain_put : (at : ℕ) (row old new : List ℕ)
    → IsPut at row (filled_to (div_ceil (at + length row) 1 * 1) (bytes_in 1 (map (λ (x : ℕ). x) old))) (bytes_in 1 (map (λ (x : ℕ). x) new))
    → IsPut at row (filled_to (at + length row) old) new
plain_put at row old new h =
    let all : div_ceil (at + length row) 1 * 1 ≡ at + length row = omega arith in
    subst (λ (xs : List ℕ). IsPut at row (filled_to (at + length row) old) xs) (plain_bytes new)
    (subst (λ (xs : List ℕ). IsPut at row (filled_to (at + length row) xs) (bytes_in 1 (map (λ (x : ℕ). x) new))) (plain_bytes old)
    (subst (λ (n : ℕ). IsPut at row (filled_to n (bytes_in 1 (map (λ (x : ℕ). x) old))) (bytes_in 1 (map (λ (x : ℕ). x) new))) all h))

-- bytes are their own numbers
pub numbers_are : (bytes : List ℕ) → numbers_in 1 bytes ≡ bytes
numbers_are bytes =
    ap (numbers_in 1) (sym (plain_bytes bytes))
    ∙ numbers_again 1 (map (λ (x : ℕ). x) bytes) (inl refl) ∙ map-id bytes

-- ---- a row that was read is written into a list

-- a row that was read straight to its position
pub put_in_place : (file : List ℕ) (order : ByteOrder) (p : PageRecord) (color : ColorType)
    (from to : ChunkCursor) (failed : Type 0) (at len : ℕ) (old row : List ℕ)
    (r : Result (Unit {0}) TiffError)
    → length row ≡ len → at + len ≤ length old → RowRead file order p color from to failed row r
    → RowPut file order p color from to failed at len old (put_mid at (at + len - at) old row) r
put_in_place file order p color from to failed at len old row (Ok done) e fits h = record {
  row = row;
  all = e;
  takes = h;
  put =
      copied old row (put_mid at (at + len - at) old row) at (subst (λ (n : ℕ). at + n
      ≤ length old) (sym e) fits) (holds_put_mid old row at len e);
}
put_in_place file order p color from to failed at len old row (Err f) e fits h =
    subst (λ (n : ℕ). IsCause (Unit {0}) failed f (IsTooShort (bytes_left file from) (needed_of_row p color n) f)) e h

-- a row that was read straight to its position in a list
pub put_in_list : (file : List ℕ) (order : ByteOrder) (p : PageRecord) (color : ColorType)
    (from to : ChunkCursor) (failed : Type 0) (at len n : ℕ) (list mid row : List ℕ)
    (r : Result (Unit {0}) TiffError)
    → length row ≡ len → at + len ≤ length list → mid ≡ list → length mid ≡ n
    → RowRead file order p color from to failed row r
    → RowPut file order p color from to failed at len list (take n (put_mid at (at
    + len - at) mid row ++ drop (length (put_mid at (at + len - at) mid row)) list)) r
put_in_list file order p color from to failed at len n list mid row r e fits same long h =
    let out : List ℕ = put_mid at (at + len - at) mid row in
    let there : at + len ≤ length mid =
    subst (λ (xs : List ℕ). at + len ≤ length xs) (sym same) fits in
    let all : length out ≡ n =
    length_held mid row out at (subst (λ (m : ℕ). at + m
    ≤ length mid) (sym e) there) (holds_put_mid mid row at len e) ∙ long in
    subst (λ (xs : List ℕ). RowPut file order p color from to failed at len list xs r)
    (all_written out list n all)
    (subst (λ (xs : List ℕ). RowPut file order p color from to failed at len xs out r) same (put_in_place file order p color from to failed at len mid row r e there h))

-- a row that is written from a scratch buffer
pub put_from_room : (order : ByteOrder) (p : PageRecord) (color : ColorType) (left rest : List ℕ)
    (at len : ℕ) (row old new : List ℕ)
    → length row ≡ len → TakesRow order p color left rest row → IsPut at row old new
    → PutsRow order p color left rest at len old new
put_from_room order p color left rest at len row old new e takes put =
    record { row = row; all = e; takes = takes; put = put }

-- a scratch buffer whose bytes were all written
pub all_of_room : (row out bytes : List ℕ) (n : ℕ) → length out ≡ n
    → row ≡ take n (out ++ drop (length out) bytes) → row ≡ out
all_of_room row out bytes n e is = is ∙ sym (all_written out bytes n e)

-- a row that is written from a scratch buffer into a list of bytes, which grows for it
pub put_into_bytes : (order : ByteOrder) (p : PageRecord) (color : ColorType) (left rest : List ℕ)
    (at len : ℕ) (row out old new : List ℕ)
    → row ≡ out → length out ≡ len → TakesRow order p color left rest out
    → IsPut at row (filled_to (div_ceil (at + length row) 1 * 1) (bytes_in 1 (map (λ (x : ℕ). x) old))) (bytes_in 1 (map (λ (x : ℕ). x) new))
    → PutsRow order p color left rest at len (filled_to (at + len) old) new
put_into_bytes order p color left rest at len row out old new same e takes put =
    let all : length row ≡ len = ap (λ (xs : List ℕ). length xs) same ∙ e in
    put_from_room order p color left rest at len row (filled_to (at + len) old) new all
    (subst (TakesRow order p color left rest) (sym same) takes)
    (subst (λ (n : ℕ). IsPut at row (filled_to (at + n) old) new) all (plain_put at row old new put))
