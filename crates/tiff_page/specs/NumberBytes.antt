-- Numbers as the bytes that represent them, the least significant first.
use Rattle.std.proofs.Common.{ap, arith, inl, inr, ⊎_elim}
use Rattle.std.proofs.lemmas.Bool.{cases_lt}
use Rattle.std.proofs.lemmas.Grind.{div_ceil_times}
use Rattle.std.proofs.Math.Nat.{add-mul, mul-le-mul_right}
use Rattle.std.specs.Int.{div_ceil}
use Rattle.std.specs.Prelude.{◌≡◌, ℕ, [], ◌+◌, ◌-◌, ◌*◌, ◌/◌, ◌%◌, ◌^◌, ◌<◌, ◌≤◌, ◌==◌, if◌then◌else◌, List, length, slice_index}
use Rattle.tiff_page.specs.Pixels.{tabulate}
use Rattle.tiff_page.specs.BufferPositions.{Writes}
use Rattle.tiff_page.specs.Row.{IsSize}

-- byte j of a number of `size` bytes: the last byte is all that is left
abbrev pub byte_of : ℕ → ℕ → ℕ → ℕ
byte_of size n j = if j + 1 == size then n / 256 ^ j else n / 256 ^ j % 256

-- all bytes of a number
abbrev pub all_bytes : ℕ → ℕ → List ℕ
all_bytes size n = tabulate size (byte_of size n)

-- the bytes of all numbers of a list
unfoldable pub bytes_in : ℕ → List ℕ → List ℕ
bytes_in size numbers =
    tabulate (length numbers * size) (λ i. byte_of size (slice_index numbers (i / size)) (i % size))

-- a row is written at a position, and each other byte is unchanged
abbrev pub IsPut : ℕ → List ℕ → List ℕ → List ℕ → Type 0
IsPut at row old new =
    Writes (λ i. (at ≤ i) × (i < at + length row)) (λ i. slice_index row (i - at)) old new

-- an empty list has no bytes
pub no_bytes : (size : ℕ) → bytes_in size [] ≡ []
unfolding bytes_in
no_bytes size = let z : 0 * size ≡ 0 = omega arith in
    ap (λ (k : ℕ). tabulate k (λ i. byte_of size (slice_index [] (i / size)) (i % size))) z

some_size : (size : ℕ) → IsSize size → 0 < size
some_size size (inl e) = omega (arith, e)
some_size size (inr (inl e)) = omega (arith, e)
some_size size (inr (inr (inl e))) = omega (arith, e)
some_size size (inr (inr (inr e))) = omega (arith, e)

-- the whole numbers for m bytes have at least m bytes, and more bytes need no fewer whole numbers
pub whole_enough : (size : ℕ) → IsSize size → (m n : ℕ) → m ≤ n → (m ≤ div_ceil m size * size)
    × (div_ceil m size * size ≤ div_ceil n size * size)
whole_enough size z m n l =
    let s : 0 < size = some_size size z in
    let c : div_ceil m size * size < m + size = (div_ceil_times m size s).1 in
    let d : n ≤ div_ceil n size * size = (div_ceil_times n size s).0 in (
      (div_ceil_times m size s).0,
      ⊎_elim
          (λ (h : div_ceil n size < div_ceil m size).
          let a : (div_ceil n size + 1) * size ≤ div_ceil m size * size = mul-le-mul_right size (omega (arith, h)) in
          let b : (div_ceil n size + 1) * size ≡ div_ceil n size * size + 1 * size = add-mul (div_ceil n size) 1 size in
          Prim.absurd (omega (arith, a, b, c, d, l)))
          (λ (h : div_ceil m size ≤ div_ceil n size). mul-le-mul_right size h)
          (cases_lt (div_ceil n size) (div_ceil m size)),
    )

pub plain_enough : (m n : ℕ) → m ≤ n → (m ≤ m) × (m ≤ n)
plain_enough m n l = (omega arith, l)
