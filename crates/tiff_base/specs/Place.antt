-- Places among pairs in ascending tag number.
use Rattle.std.specs.Prelude.{◌≡◌, ℕ, ◌<◌, ◌≤◌, List, length, get_or}
use Rattle.std.specs.List.Sorted.{IsStrictlySortedBy}
use Rattle.std.specs.Map.{keys_of}
use Rattle.std.specs.Ordering.{nat_cmp}
use Rattle.tiff_base.specs.Field.{Field}

-- each tag number is below the numbers after it
abbrev pub IsAscending : List (ℕ × Field) → Type 0
IsAscending entries = IsStrictlySortedBy nat_cmp (keys_of entries)

-- the tag number of the pair at a place
abbrev pub key_at : List (ℕ × Field) → ℕ → ℕ
key_at entries i = get_or (keys_of entries) i 0

-- The pair at a place has this tag number.
pub record IsPlaceOf (number : ℕ) (entries : List (ℕ × Field)) (at : ℕ) : Type 0 where
  pub within : at < length entries
  pub same : key_at entries at ≡ number

-- The tag numbers before a place are smaller than this number, and those from the place on are
-- greater.
pub record IsGapFor (number : ℕ) (entries : List (ℕ × Field)) (at : ℕ) : Type 0 where
  pub within : at ≤ length entries
  pub smaller_before : (i : ℕ) → i < at → key_at entries i < number
  pub greater_after : (i : ℕ) → at ≤ i → i < length entries → number < key_at entries i

-- The tag numbers before a place are at most this number, and those from the place on are greater.
pub record IsBehind (number : ℕ) (entries : List (ℕ × Field)) (at : ℕ) : Type 0 where
  pub within : at ≤ length entries
  pub passed : (i : ℕ) → i < at → key_at entries i ≤ number
  pub greater : (i : ℕ) → at ≤ i → i < length entries → number < key_at entries i
