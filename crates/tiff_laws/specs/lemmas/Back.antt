-- The bytes of numbers that were made of bytes.
use Rattle.std.proofs.Common.{◌≡◌, ℕ, zero, suc, ◌+◌, ◌-◌, ◌*◌, ◌%◌, ◌<◌, ◌≤◌, List, [], ◌∷◌, ◌++◌, length, take, drop, get_or, refl, ap, sym, ap₂, ◌∙◌, arith, length-drop, length-append, flat_map, ⊎_elim}
use Rattle.std.proofs.lemmas.Bool.{cases_lt}
use Rattle.std.proofs.lemmas.List.{get_or-take, get_or-drop, get_or_past, take_all, take-take, drop-take, take-append-drop, append-nil, length-take, length-take-le, length-replicate}
use Rattle.std.proofs.lemmas.List.FromFn.{map-range_with_len_more}
use Rattle.std.proofs.lemmas.Grind.{flat_map-append}
use Rattle.std.proofs.lemmas.Nat.{le_bytes_2, le_bytes_4, le_bytes_8}
use Rattle.std.specs.Prelude.{replicate}
use Rattle.std.specs.Int.{div_ceil}
use Rattle.tiff_base.specs.declared.tags.ByteOrder.TheVariants.{LittleEndian}
use Rattle.tiff_base.specs.Number.{number, le}
use Rattle.tiff_base.specs.SourceAndSink.{AreOctets}
use Rattle.tiff_page.specs.declared.layout.DecodingSampleType.TheVariants as type
use Rattle.tiff_page.specs.Pixels.{tabulate, width_of, numbers_in}
use Rattle.tiff_decode.specs.Result.{whole_numbers, BytesAgain}
use Rattle.tiff_decode.specs.lemmas.Pieces.{zero_in, behind, number_in, whole}

-- the bytes of a number are the bytes that it was made of
abbrev pub Returns : ℕ → Type 0
Returns size =
    (piece : List ℕ) → length piece ≡ size → AreOctets piece
    → le size (number LittleEndian (width_of size) piece) ≡ piece

pub returns_1 : Returns 1
unfolding number
returns_1 [] len octets = absurd (omega arith)
returns_1 (b ∷ []) len octets =
    let e : b % 256 ≡ b = omega (arith, octets 0) in ap (λ (n : ℕ). n ∷ []) e
returns_1 (b ∷ c ∷ piece) len octets = absurd (omega arith)

pub returns_2 : Returns 2
unfolding number
returns_2 piece len octets = le_bytes_2 piece _ len octets refl

pub returns_4 : Returns 4
unfolding number
returns_4 piece len octets = le_bytes_4 piece _ len octets refl

pub returns_8 : Returns 8
unfolding number
returns_8 piece len octets = le_bytes_8 piece _ len octets refl

pub take_next : (m n : ℕ) (xs : List ℕ) → take m xs ++ take n (drop m xs) ≡ take (m + n) xs
take_next m n xs =
    sym (ap₂ ◌++◌ (take-take m (m + n) xs (omega arith)) (drop-take m n xs))
    ∙ take-append-drop m (take (m + n) xs)

octets_in : (size : ℕ) (bytes : List ℕ) (n : ℕ) → AreOctets bytes
    → AreOctets (take size (drop (n * size) bytes))
octets_in size bytes n octets k =
    ⊎_elim
    (λ (l : k < size). let e : get_or (take size (drop (n * size) bytes)) k 0
    ≡ get_or bytes (n * size + k) 0 =
    get_or-take size (drop (n * size) bytes) k 0 l ∙ get_or-drop (n * size) bytes k 0 in
    omega (arith, octets (n * size + k), e))
    (λ (l : size ≤ k). let e : get_or (take size (drop (n * size) bytes)) k 0
    ≡ 0 = get_or_past (take size (drop (n * size) bytes)) k 0 (omega (arith, length-take size (drop (n * size) bytes))) in omega (arith, e))
    (cases_lt k size)

number_back : (size : ℕ) → Returns size → (bytes : List ℕ) → AreOctets bytes → (n : ℕ)
    → n * size + size ≤ length bytes
    → le size (number_in size bytes n) ≡ take size (drop (n * size) bytes)
number_back size returns bytes octets n h =
    let piece : List ℕ = take size (drop (n * size) bytes) in
    ap (λ (p : List ℕ). le size (number LittleEndian (width_of size) p)) (sym (whole size bytes n h))
    ∙ returns piece (length-take-le size (drop (n * size) bytes) (omega (arith, length-drop (n * size) bytes))) (octets_in size bytes n octets)

-- whole numbers have the bytes that they were made of
pub each_back : (size : ℕ) → Returns size → (bytes : List ℕ) → AreOctets bytes → (n : ℕ)
    → n * size ≤ length bytes
    → flat_map (le size) (tabulate n (number_in size bytes)) ≡ take (n * size) bytes
each_back size returns bytes octets zero h =
    let e : 0 ≡ 0 * size = omega arith in ap (λ (k : ℕ). take k bytes) e
each_back size returns bytes octets (suc n) h =
    let more : suc n ≡ n + 1 = omega arith in
    let len : n * size + size ≡ suc n * size = omega arith in
    let fits : n * size + size ≤ length bytes = omega arith in
    let before : n * size ≤ length bytes = omega arith in
    ap (λ (k : ℕ). flat_map (le size) (tabulate k (number_in size bytes))) more
    ∙ ap (flat_map (le size)) (map-range_with_len_more (number_in size bytes) 0 n n (omega arith))
    ∙ flat_map-append (le size) (tabulate n (number_in size bytes)) (number_in size bytes n ∷ [])
    ∙ ap₂ ◌++◌ (each_back size returns bytes octets n before) (append-nil (le size (number_in size bytes n)) ∙ number_back size returns bytes octets n fits)
    ∙ take_next (n * size) size bytes
    ∙ ap (λ (k : ℕ). take k bytes) len

-- numbers of which the last was filled up have the bytes that they were made of
filled_back : (size : ℕ) → Returns size → (bytes : List ℕ) → AreOctets bytes
    → length bytes + (size - length bytes % size) % size ≡ div_ceil (length bytes) size * size
    → flat_map (le size) (numbers_in size bytes) ≡ whole_numbers size bytes
unfolding numbers_in
filled_back size returns bytes octets len =
    let missing : ℕ = (size - length bytes % size) % size in
    let all : List ℕ = whole_numbers size bytes in
    let count : ℕ = div_ceil (length bytes) size in
    let same : (k : ℕ) → get_or all k 0 ≡ get_or bytes k 0 =
    λ k. behind bytes (replicate missing 0) k (zero_in missing) in
    let all_octets : AreOctets all = λ k. omega (arith, same k, octets k) in
    let all_len : length all ≡ count * size =
    length-append bytes (replicate missing 0)
    ∙ ap (λ (n : ℕ). length bytes + n) (length-replicate missing 0) ∙ len in
    (λ i. flat_map (le size) (tabulate count (λ n. number LittleEndian (width_of size) (tabulate size (λ j. sym (same (n * size + j)) i)))))
    ∙ each_back size returns all all_octets count (omega (arith, all_len))
    ∙ take_all (count * size) all (omega (arith, all_len))

pub back : BytesAgain
back type.U8 bytes octets = filled_back 1 returns_1 bytes octets (omega arith)
back type.I8 bytes octets = filled_back 1 returns_1 bytes octets (omega arith)
back type.U16 bytes octets = filled_back 2 returns_2 bytes octets (omega arith)
back type.I16 bytes octets = filled_back 2 returns_2 bytes octets (omega arith)
back type.F16 bytes octets = filled_back 2 returns_2 bytes octets (omega arith)
back type.U32 bytes octets = filled_back 4 returns_4 bytes octets (omega arith)
back type.I32 bytes octets = filled_back 4 returns_4 bytes octets (omega arith)
back type.F32 bytes octets = filled_back 4 returns_4 bytes octets (omega arith)
back type.U64 bytes octets = filled_back 8 returns_8 bytes octets (omega arith)
back type.I64 bytes octets = filled_back 8 returns_8 bytes octets (omega arith)
back type.F64 bytes octets = filled_back 8 returns_8 bytes octets (omega arith)
