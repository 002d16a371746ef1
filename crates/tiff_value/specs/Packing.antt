-- How the packer packs one block after another: the contracts of its functions.
use Rattle.std.specs.Prelude.{◌≡◌, ◌≢◌, ℕ, ◌+◌, ◌*◌, ◌<◌, ◌≤◌, ◌⊎◌, ◌==◌, ◌&&◌, if◌then◌else◌, List, [], ◌∷◌, ◌++◌, take, drop, replicate, slice_index, length}
use Rattle.tiff_value.specs.Packed.{Packs, IsPacked}

-- the first n bytes are equal, and n is 128, or the bytes end there, or the next byte is different
pub record IsRun (bytes : List ℕ) (n : ℕ) : Type 0 where
  pub some : 0 < n
  pub most : n ≤ 128
  pub within : n ≤ length bytes
  pub same : take n bytes ≡ replicate n (slice_index bytes 0)
  pub longest : n < 128 → n < length bytes → slice_index bytes n ≢ slice_index bytes 0

-- the bytes begin with three equal bytes
pub record BeginsWithThree (bytes : List ℕ) : Type 0 where
  pub long : 2 < length bytes
  pub first : slice_index bytes 0 ≡ slice_index bytes 1
  pub second : slice_index bytes 1 ≡ slice_index bytes 2

-- the bytes do not begin with two equal bytes, and contain no three equal bytes in a row
pub record IsVaried (bytes : List ℕ) : Type 0 where
  pub first : 1 < length bytes → slice_index bytes 0 ≢ slice_index bytes 1
  pub no_three : (k : ℕ) → k + 2 < length bytes → slice_index bytes k ≡ slice_index bytes (k + 1)
      → slice_index bytes (k + 1) ≢ slice_index bytes (k + 2)

-- the first n bytes are varied, and n is 128, or the bytes end there, or three equal bytes follow
pub record IsVariedFront (bytes : List ℕ) (n : ℕ) : Type 0 where
  pub some : 0 < n
  pub most : n ≤ 128
  pub within : n ≤ length bytes
  pub varied : IsVaried (take n bytes)
  pub why : (n ≡ 128) ⊎ ((n ≡ length bytes) ⊎ BeginsWithThree (drop n bytes))

-- the distance to the bound that may remain before these bytes, in 128ths of a byte
abbrev pub bound_slack : List ℕ → ℕ
bound_slack [] = 127
bound_slack (a ∷ []) = 0
bound_slack (a ∷ b ∷ []) = 0
bound_slack (a ∷ b ∷ c ∷ rest) = if (a == b) && (b == c) then 128 else 0

-- `new` is `old` with blocks for the first n bytes at its end, and these blocks are short enough
pub record PacksAtEnd (old bytes : List ℕ) (n : ℕ) (new : List ℕ) : Type 0 where
  pub some : 0 < n
  pub within : n ≤ length bytes
  pub packed : List ℕ
  pub packs : Packs packed (take n bytes)
  pub short : 128 * length packed + bound_slack bytes ≤ 129 * n + bound_slack (drop n bytes)
  pub at_end : new ≡ old ++ packed

-- `new` is `old` with a packed list of the bytes at its end
pub record AppendsPacked (old bytes new : List ℕ) : Type 0 where
  pub packed : List ℕ
  pub is_packed : IsPacked bytes packed
  pub at_end : new ≡ old ++ packed
