-- Samples as differences along their row (TIFF 6.0 section 14).
use Rattle.std.specs.Prelude.{◌≡◌, ℕ, ◌+◌, ◌-◌, ◌*◌, ◌%◌, ◌<◌, ◌≤◌, Bool, true, false, if◌then◌else◌, ◌==◌, nat_lt, List, [], map, get_or, length}
use Rattle.std.specs.List.{range_with_len}
use Rattle.tiff_base.specs.Number.{sample_sum}
use Rattle.tiff_base.specs.declared.tags.Predictor.{Predictor}
use Rattle.tiff_base.specs.declared.tags.Predictor.TheVariants.{Horizontal}
use Rattle.tiff_base.specs.declared.tags.«Type».{«Type»}
use Rattle.tiff_base.specs.declared.tags.«Type».TheVariants.{FLOAT, DOUBLE}

-- what is written in place of number k of rows of l numbers below m, with s numbers a pixel: the
-- numbers of the first pixel of a row as they are, and each other number minus the number s before
-- it, modulo m; without the horizontal predictor each number as it is
abbrev pub stored_difference : Predictor → ℕ → ℕ → ℕ → List ℕ → ℕ → ℕ
stored_difference Horizontal m l s numbers k =
    if nat_lt (k % l) s then get_or numbers k 0
    else (get_or numbers k 0 + m - get_or numbers (k - s) 0) % m
stored_difference predictor m l s numbers k = get_or numbers k 0

-- what is written in place of all numbers of some rows
unfoldable pub differences : Predictor → ℕ → ℕ → ℕ → List ℕ → List ℕ
differences predictor m l s numbers =
    map (stored_difference predictor m l s numbers) (range_with_len 0 (length numbers))

-- a row as differences; nothing if the stride is 0, or if the row is shorter than the stride
abbrev pub predicted_row : ℕ → ℕ → List ℕ → List ℕ
predicted_row m stride row =
    if stride == 0 then [] else if nat_lt (length row) stride then []
    else differences Horizontal m (length row) stride row

-- the numbers from `at` up to `end` of a row, as differences
abbrev pub predicted_part : ℕ → ℕ → ℕ → ℕ → List ℕ → List ℕ
predicted_part m stride at end row =
    map (λ k. stored_difference Horizontal m (length row) stride row (at + k))
    (range_with_len 0 (end - at))

-- the samples from `at` up to `end` are in a row of `long` samples, and have `room` bytes in all,
-- `size` each
pub record IsPart (long at end size room : ℕ) : Type 0 where
  pub order : at ≤ end
  pub within : end ≤ long
  pub fills : room ≡ (end - at) * size

abbrev pub is_floating : «Type» → Bool
is_floating FLOAT = true
is_floating DOUBLE = true
is_floating type = false

-- ---- its law

-- number k of a row of differences, undone as a reader undoes it
abbrev pub restored_number : ℕ → ℕ → List ℕ → ℕ → ℕ
restored_number m stride row k = sample_sum m stride (λ i. get_or row i 0) k

-- Undoing the differences restores each number of the row.
abbrev pub IsUndone : Type 0
IsUndone = (m stride : ℕ) (row : List ℕ) → 0 < stride → stride ≤ length row
    → ((k : ℕ) → get_or row k 0 < m)
    → (k : ℕ) → k < length row
    → restored_number m stride (predicted_row m stride row) k ≡ get_or row k 0
