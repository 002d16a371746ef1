-- The numbers that bytes hold, and the bytes of these numbers.
use Rattle.std.proofs.Common.{◌≡◌, ℕ, zero, suc, ◌+◌, ◌*◌, ◌/◌, ◌%◌, ◌^◌, ◌<◌, ◌≤◌, List, [], ◌++◌, length, take, drop, get_or, refl, ap, sym, ◌∙◌, subst, arith, ⊎_elim, length-drop}
use Rattle.std.proofs.Math.Nat.{mul-div_cancel, mul-le-mul_right, mul-mod_left}
use Rattle.std.proofs.lemmas.Bool.{cases_lt}
use Rattle.std.proofs.lemmas.List.{ext_get_or, get_or-drop, get_or-take, get_or_append_left, get_or_past, append-nil, length-take-le}
use Rattle.std.proofs.lemmas.List.FromFn.{length-map-range_with_len, get_or-map-range_with_len}
use Rattle.std.proofs.lemmas.Nat.{div-add-mod', div_below, le-div, mod_below}
use Rattle.std.specs.Int.{byte_at, bytes_low_first, div_ceil}
use Rattle.std.specs.List.{flat_map}
use Rattle.std.specs.Prelude.{slice_index}
use Rattle.tiff_base.specs.declared.tags.ByteOrder.TheVariants.{LittleEndian}
use Rattle.tiff_base.specs.Number.{number, le}
use Rattle.tiff_base.specs.SourceAndSink.{AreOctets}
use Rattle.tiff_page.specs.Pixels.{tabulate, width_of, row_number, numbers_in}
use Rattle.tiff_page.specs.Row.{IsSize}
use Rattle.tiff_page.specs.lemmas.Rows.{bytes_of_numbers, each_same, number_lt, some_size}
use Rattle.tiff_encode.specs.ImageData.{AreNumbers}
use Rattle.tiff_encode.specs.lemmas.Data.Cut.{each_of}
use Rattle.tiff_encode.specs.lemmas.Samples.{some_bytes}
use Rattle.tiff_page.specs.lemmas.WrittenNumbers.{length_written, stands_there}
use Rattle.tiff_base.specs.lemmas.Slices.{length-le}

-- ---- how many numbers

-- Bytes hold as many numbers as it takes to cover them.
pub count_numbers : (size : ℕ) (bytes : List ℕ)
    → length (numbers_in size bytes) ≡ div_ceil (length bytes) size
unfolding numbers_in
count_numbers size bytes =
    length-map-range_with_len (row_number LittleEndian size bytes) 0 (div_ceil (length bytes) size)

-- So many whole numbers are covered by as many.
whole_count : (n size : ℕ) → 0 < size → div_ceil (n * size) size ≡ n
whole_count n size pos =
    let d : n * size / size ≡ n = mul-div_cancel n pos in
    let m : n * size % size ≡ 0 = mul-mod_left n size in
    omega (arith, d, m)

-- The bytes of whole numbers hold as many numbers.
pub whole_numbers : (size n : ℕ) (bytes : List ℕ) → 0 < size → length bytes ≡ n * size
    → length (numbers_in size bytes) ≡ n
whole_numbers size n bytes pos len =
    count_numbers size bytes ∙ ap (λ (k : ℕ). div_ceil k size) len ∙ whole_count n size pos

-- Where no byte is left over, the numbers that cover bytes have as many bytes.
pub whole_len : (len size : ℕ) → len % size ≡ 0 → len ≡ div_ceil len size * size
whole_len len size none =
    let same : len / size ≡ div_ceil len size = omega (arith, none) in
    let all : len / size * size + len % size ≡ len = div-add-mod' len size in
    let there : len / size * size ≡ div_ceil len size * size = ap (λ (n : ℕ). n * size) same in
    omega (arith, all, there, none)

-- Whole numbers that are no more than bytes hold have no more bytes than these.
pub bytes_enough : (size n : ℕ) (bytes : List ℕ) → length bytes % size ≡ 0
    → n ≤ length (numbers_in size bytes) → n * size ≤ length bytes
bytes_enough size n bytes none few =
    let most : n ≤ div_ceil (length bytes) size = subst (λ k. n ≤ k) (count_numbers size bytes) few in
    let all : n * size ≤ div_ceil (length bytes) size * size = mul-le-mul_right size most in
    subst (λ k. n * size ≤ k) (sym (whole_len (length bytes) size none)) all

-- ---- their sizes

-- Each number that bytes hold fits as many bytes.
pub numbers_small : (size : ℕ) (bytes : List ℕ) → IsSize size → AreOctets bytes
    → AreNumbers size (numbers_in size bytes)
unfolding numbers_in
numbers_small size bytes z octets n =
    let f : ℕ → ℕ = row_number LittleEndian size bytes in
    let count : ℕ = div_ceil (length bytes) size in
    let P : ℕ → Type 0 = λ k. k < 256 ^ size in
    ⊎_elim
    (λ (l : n < count).
    subst P (sym (get_or-map-range_with_len f 0 count n n 0 l (omega arith)))
    (number_lt size bytes n z octets))
    (λ (l : count ≤ n).
    let past : length (tabulate count f) ≤ n =
    subst (λ k. k ≤ n) (sym (length-map-range_with_len f 0 count)) l in
    subst P (sym (get_or_past (tabulate count f) n 0 past)) (some_bytes size))
    (cases_lt n count)

-- ---- numbers of a part of the bytes

-- A byte of a part of the bytes, by its number and its offset in the number.
part_byte : (size m n : ℕ) (bytes : List ℕ) (k j : ℕ) → k < n → j < size
    → get_or (take (n * size) (drop (m * size) bytes)) (k * size + j) 0
    ≡ get_or bytes ((m + k) * size + j) 0
part_byte size m n bytes k j l w =
    let fits : (k + 1) * size ≤ n * size = mul-le-mul_right size (omega (arith, l)) in
    let split : (k + 1) * size ≡ k * size + size = omega arith in
    let here : k * size + j < n * size = omega (arith, fits, split, w) in
    let there : m * size + (k * size + j) ≡ (m + k) * size + j = omega arith in
    get_or-take (n * size) (drop (m * size) bytes) (k * size + j) 0 here
    ∙ get_or-drop (m * size) bytes (k * size + j) 0
    ∙ ap (λ (i : ℕ). get_or bytes i 0) there

-- A number of a part of the bytes is a number of all bytes.
part_number : (size m n : ℕ) (bytes : List ℕ) (k : ℕ) → k < n
    → row_number LittleEndian size (take (n * size) (drop (m * size) bytes)) k
    ≡ row_number LittleEndian size bytes (m + k)
part_number size m n bytes k l =
    let part : List ℕ = take (n * size) (drop (m * size) bytes) in
    ap (number LittleEndian (width_of size)) (each_same size (λ j. get_or part (k * size + j) 0) (λ j. get_or bytes ((m + k) * size + j) 0) (λ j w. part_byte size m n bytes k j l w))

-- The numbers of a part of the bytes are that part of the numbers.
pub part_numbers : (size m n : ℕ) (bytes : List ℕ) → 0 < size → (m + n) * size ≤ length bytes
    → numbers_in size (take (n * size) (drop (m * size) bytes))
    ≡ take n (drop m (numbers_in size bytes))
unfolding numbers_in
part_numbers size m n bytes pos fits =
    let part : List ℕ = take (n * size) (drop (m * size) bytes) in
    let f : ℕ → ℕ = row_number LittleEndian size bytes in
    let all : ℕ = div_ceil (length bytes) size in
    let numbers : List ℕ = tabulate all f in
    let split : (m + n) * size ≡ m * size + n * size = omega arith in
    let len : length part ≡ n * size =
    length-take-le (n * size) (drop (m * size) bytes) (omega (arith, length-drop (m * size) bytes, fits, split)) in
    let count : div_ceil (length part) size ≡ n =
    ap (λ (k : ℕ). div_ceil k size) len ∙ whole_count n size pos in
    let most : m + n ≤ length bytes / size = le-div (m + n) (length bytes) size pos fits in
    let many : length numbers ≡ all = length-map-range_with_len f 0 all in
    ap (λ (k : ℕ). tabulate k (row_number LittleEndian size part)) count
    ∙ each_same n (row_number LittleEndian size part) (λ k. slice_index numbers (m + k))
    (λ k l.
    part_number size m n bytes k l
    ∙ sym (get_or-map-range_with_len f 0 all (m + k) (m + k) 0 (omega (arith, most, l)) (omega arith)))
    ∙ sym (each_of numbers m n (omega (arith, most, many)))

-- ---- the bytes of the numbers

-- A byte of a number, the lowest first.
byte_is : (i n : ℕ) → byte_at i n ≡ n / 256 ^ i % 256
byte_is zero n = omega arith
byte_is (suc i) n = refl

low_byte : (i k n j : ℕ) → j < k
    → get_or (bytes_low_first i k n) j 0 ≡ n / 256 ^ (i + j) % 256
low_byte i zero n j h = absurd (omega arith)
low_byte i (suc k) n zero h =
    let e : i ≡ i + 0 = omega arith in byte_is i n ∙ ap (λ (m : ℕ). n / 256 ^ m % 256) e
low_byte i (suc k) n (suc j) h =
    let e : suc i + j ≡ i + suc j = omega arith in
    low_byte (suc i) k n j (omega (arith, h)) ∙ ap (λ (m : ℕ). n / 256 ^ m % 256) e

-- A byte of the bytes of numbers, by its number and its offset in the number.
written_byte : (size : ℕ) (numbers : List ℕ) (k j : ℕ) → k < length numbers → j < size
    → get_or (flat_map (le size) numbers) (k * size + j) 0
    ≡ get_or numbers k 0 / 256 ^ j % 256
written_byte size numbers k j l w =
    let none : List ℕ = [] in
    let all : List ℕ = flat_map (le size) numbers in
    let n : ℕ = get_or numbers k 0 in
    let there = stands_there size numbers none k l in
    let long : length (le size n) ≡ size = length-le 0 size n in
    let first : 0 + j ≡ j = omega arith in
    ap (λ (bytes : List ℕ). get_or bytes (k * size + j) 0) (sym (append-nil all))
    ∙ sym (get_or-drop (k * size) (all ++ none) j 0)
    ∙ ap (λ (bytes : List ℕ). get_or bytes j 0) there.1
    ∙ get_or_append_left (le size n) there.0 0 j (omega (arith, w, long))
    ∙ low_byte 0 size n j w
    ∙ ap (λ (m : ℕ). n / 256 ^ m % 256) first

-- The bytes of the numbers that whole bytes hold are these bytes.
pub bytes_again : (size : ℕ) (bytes : List ℕ) → IsSize size → AreOctets bytes
    → length bytes % size ≡ 0 → flat_map (le size) (numbers_in size bytes) ≡ bytes
unfolding numbers_in
bytes_again size bytes z octets none =
    let s : 0 < size = some_size size z in
    let f : ℕ → ℕ = row_number LittleEndian size bytes in
    let count : ℕ = div_ceil (length bytes) size in
    let numbers : List ℕ = tabulate count f in
    let all : List ℕ = flat_map (le size) numbers in
    let many : length numbers ≡ count = length-map-range_with_len f 0 count in
    let len : length all ≡ count * size =
    length_written size numbers ∙ ap (λ (n : ℕ). n * size) many in
    let same : length all ≡ length bytes =
    len ∙ sym (whole_len (length bytes) size none) in
    ext_get_or 0 all bytes same
    (λ i b.
    let k : ℕ = i / size in
    let j : ℕ = i % size in
    let l : k < count = div_below i size count s (omega (arith, b, len)) in
    let w : j < size = mod_below i size s in
    let byte : get_or all (k * size + j) 0 ≡ get_or bytes (k * size + j) 0 =
    written_byte size numbers k j (omega (arith, l, many)) w
    ∙ ap (λ (n : ℕ). n / 256 ^ j % 256) (get_or-map-range_with_len f 0 count k k 0 l (omega arith))
    ∙ sym (bytes_of_numbers size bytes k j z octets w) in
    subst (λ (n : ℕ). get_or all n 0 ≡ get_or bytes n 0) (div-add-mod' i size) byte)
