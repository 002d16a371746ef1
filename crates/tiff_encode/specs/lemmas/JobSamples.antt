-- Samples that are cut out of lent bytes.
use Rattle.std.proofs.Common.{◌≡◌, ℕ, zero, suc, ◌+◌, ◌*◌, ◌/◌, ◌%◌, ◌^◌, ◌<◌, ◌≤◌, List, [], ◌∷◌, ◌++◌, map, length, take, drop, get_or, Fits, w8, refl, ap, sym, ◌∙◌, arith}
use Rattle.std.proofs.lemmas.Nat.{row_fits, div-add-mod'}
use Rattle.std.proofs.lemmas.List.{drop-drop, map-append}
use Rattle.std.proofs.lemmas.List.FromFn.{length-map-range_with_len, map-range_with_len_more}
use Rattle.std.proofs.Math.Nat.{mod-eq_of_lt}
use Rattle.std.specs.Int.{div_ceil}
use Rattle.std.specs.List.{range_with_len}
use Rattle.std.specs.Simd.{first_chunks}
use Rattle.tiff_base.specs.declared.tags.ByteOrder.TheVariants.{LittleEndian}
use Rattle.tiff_base.specs.declared.tags.«Type».{«Type»}
use Rattle.tiff_base.specs.Number.{number}
use Rattle.tiff_base.specs.Types.{type_size}
use Rattle.tiff_page.specs.Pixels.{tabulate, width_of, row_number, numbers_in}
use Rattle.tiff_page.specs.lemmas.NumberBytes.{numbers_are}
use Rattle.tiff_page.specs.lemmas.Rows.{by_size, each_at, number_lt}
use Rattle.tiff_encode.specs.ImageData.{AreNumbers}
use Rattle.tiff_encode.specs.JobValues.{cut_to}
use Rattle.tiff_encode.specs.lemmas.Shown.Color.{size_of_type}

piece_at : (size count : ℕ) (bytes : List ℕ) (n : ℕ) (d : List ℕ) → n < count
    → get_or (first_chunks size count bytes) n d ≡ take size (drop (n * size) bytes)
piece_at size zero bytes n d h = absurd (omega arith)
piece_at size (suc count) bytes zero d h =
    let e : 0 * size ≡ 0 = omega arith in ap (λ (k : ℕ). take size (drop k bytes)) (sym e)
piece_at size (suc count) bytes (suc n) d h =
    let e : size + n * size ≡ suc n * size = omega arith in
    piece_at size count (drop size bytes) n d (omega arith)
    ∙ ap (take size) (drop-drop (n * size) size bytes ∙ ap (λ (k : ℕ). drop k bytes) e)

within : (size len n : ℕ) → n < len / size → (n + 1) * size ≤ len
within size len n h =
    omega (arith, row_fits n size (len / size) size h (omega arith), div-add-mod' len size)

-- One more number is cut.
pub next_cut : {X : Type 0} (bits : X → ℕ) (cut size : ℕ) (bytes : List ℕ) (n : ℕ) (xs ys : List X)
    (x : X) (m : ℕ) (pieces : List (List ℕ)) (piece d : List ℕ)
    → pieces ≡ first_chunks size (length bytes / size) bytes → n < length bytes / size
    → map bits xs ≡ cut_to cut (tabulate n (row_number LittleEndian size bytes))
    → piece ≡ get_or pieces n d → m ≡ number LittleEndian (width_of size) piece
    → bits x ≡ m % 256 ^ cut → ys ≡ xs ++ x ∷ []
    → map bits ys ≡ cut_to cut (tabulate (n + 1) (row_number LittleEndian size bytes))
next_cut bits cut size bytes n xs ys x m pieces piece d are h done here is low more =
    let f : ℕ → ℕ = row_number LittleEndian size bytes in
    let found : piece ≡ tabulate size (λ j. get_or bytes (n * size + j) 0) =
    here ∙ ap (λ (ps : List (List ℕ)). get_or ps n d) are
    ∙ piece_at size (length bytes / size) bytes n d h
    ∙ sym (each_at size n bytes (within size (length bytes) n h)) in
    let value : bits x ≡ f n % 256 ^ cut =
    low ∙ ap (λ (k : ℕ). k % 256 ^ cut) (is ∙ ap (number LittleEndian (width_of size)) found) in
    ap (map bits) more ∙ map-append bits xs (x ∷ [])
    ∙ (λ i. done i ++ value i ∷ [])
    ∙ sym (map-append (λ (k : ℕ). k % 256 ^ cut) (tabulate n f) (f n ∷ []))
    ∙ ap (cut_to cut) (sym (map-range_with_len_more f 0 n n (omega arith)))

-- No byte is left over.
pub all_cut : {X : Type 0} (bits : X → ℕ) (cut size : ℕ) (bytes : List ℕ) (xs : List X)
    → length bytes % size ≡ 0
    → map bits xs ≡ cut_to cut (tabulate (length bytes / size) (row_number LittleEndian size bytes))
    → map bits xs ≡ cut_to cut (numbers_in size bytes)
unfolding numbers_in
all_cut bits cut size bytes xs none done =
    let e : length bytes / size ≡ div_ceil (length bytes) size = omega (arith, none) in
    done ∙ ap (λ (k : ℕ). cut_to cut (tabulate k (row_number LittleEndian size bytes))) e

-- Bytes stay as they are cut to one byte each.
low_bytes : (bytes : List ℕ) → ((i : ℕ) → get_or bytes i 0 < 256) → cut_to 1 bytes ≡ bytes
low_bytes [] small = refl
low_bytes (b ∷ bytes) small = λ i. mod-eq_of_lt (small 0) i ∷ low_bytes bytes (λ k. small (suc k)) i

-- Bytes are samples of one byte.
pub octets_are : (size : ℕ) (bytes numbers : List ℕ) → size ≡ 1 → numbers ≡ bytes
    → ((i : ℕ) → Fits w8 (get_or bytes i 0)) → numbers ≡ cut_to size (numbers_in 1 bytes)
octets_are size bytes numbers is e fit =
    e ∙ sym (low_bytes bytes (λ i. let f = fit i in omega (arith, f)))
    ∙ ap (cut_to 1) (sym (numbers_are bytes))
    ∙ ap (λ (k : ℕ). cut_to k (numbers_in 1 bytes)) (sym is)

-- Values are no more than their bytes.
pub no_more : (type : «Type») (bytes : List ℕ)
    → length (numbers_in (type_size type) bytes) ≤ length bytes
unfolding numbers_in
no_more type bytes =
    let size : ℕ = type_size type in
    let n : ℕ = length bytes in
    let count : div_ceil n size ≤ n =
    by_size (λ s. div_ceil n s ≤ n) size (omega arith) (omega arith) (omega arith) (omega arith)
    (size_of_type type) in
    omega (arith, count, length-map-range_with_len (row_number LittleEndian size bytes) 0 (div_ceil n size))

-- Numbers below a bound stay as they are cut to it.
low_numbers : (bound : ℕ) (f : ℕ → ℕ) (n a : ℕ) → ((k : ℕ) → f k < bound)
    → map (λ x. x % bound) (map f (range_with_len a n)) ≡ map f (range_with_len a n)
low_numbers bound f zero a small = refl
low_numbers bound f (suc n) a small =
    λ i. mod-eq_of_lt (small a) i ∷ low_numbers bound f n (a + 1) small i

-- Whole values stay as they are cut to as many bytes as they have.
pub whole_cut : (type : «Type») (bytes : List ℕ) → ((i : ℕ) → Fits w8 (get_or bytes i 0))
    → cut_to (type_size type) (numbers_in (type_size type) bytes)
    ≡ numbers_in (type_size type) bytes
unfolding numbers_in
whole_cut type bytes fit =
    let size : ℕ = type_size type in
    low_numbers (256 ^ size) (row_number LittleEndian size bytes) (div_ceil (length bytes) size) 0
    (λ k. number_lt size bytes k (size_of_type type) (λ i. let f = fit i in omega (arith, f)))

-- Numbers that fit so many bytes stay as they are cut to these.
pub small_cut : (size : ℕ) (xs : List ℕ) → AreNumbers size xs → cut_to size xs ≡ xs
small_cut size [] small = refl
small_cut size (x ∷ xs) small =
    λ i. mod-eq_of_lt (small 0) i ∷ small_cut size xs (λ k. small (suc k)) i
