-- The numbers that the file stores of a row of samples.
use Rattle.std.specs.Prelude.{◌≡◌, ℕ, ◌+◌, ◌-◌, ◌*◌, ◌/◌, ◌%◌, ◌^◌, ◌<◌, ◌≤◌, if◌then◌else◌, nat_lt, List, length, slice_index}
use Rattle.tiff_base.specs.declared.tags.ByteOrder.{ByteOrder}
use Rattle.tiff_base.specs.declared.tags.ByteOrder.TheVariants.{LittleEndian}
use Rattle.tiff_base.specs.declared.tags.PhotometricInterpretation.{PhotometricInterpretation}
use Rattle.tiff_base.specs.declared.tags.Predictor.{Predictor}
use Rattle.tiff_base.specs.declared.tags.Predictor.TheVariants as predictor
use Rattle.tiff_page.specs.Pixels.{row_number, shown_number}

-- number n of a row of samples, complemented if white is zero
abbrev pub plain_number : PhotometricInterpretation → ℕ → List ℕ → ℕ → ℕ
plain_number meaning size samples n =
    shown_number meaning (256 ^ size) (row_number LittleEndian size samples n)

-- number n of a row of numbers below m as the file stores it: with the horizontal predictor, less
-- the same sample of the pixel before it, modulo m; a pixel has `shown` numbers
abbrev pub stored_by : Predictor → ℕ → ℕ → (ℕ → ℕ) → ℕ → ℕ
stored_by predictor.Horizontal m shown value n =
    if nat_lt n shown then value n else (value n + m - value (n - shown)) % m
stored_by _ m shown value n = value n

-- which number of a stored row, with `stored` numbers a pixel, number n of a row of samples is,
-- with `shown` numbers a pixel
abbrev pub place_of : ℕ → ℕ → ℕ → ℕ
place_of shown stored n = n / shown * stored + n % shown

-- The number with the index k of a row became another number, and no other byte changed.
pub record PutsNumber (order : ByteOrder) (size k number : ℕ) (old new : List ℕ) : Type 0 where
  pub same_length : length new ≡ length old
  pub there : row_number order size new k ≡ number
  pub below : (i : ℕ) → i < k * size → slice_index new i ≡ slice_index old i
  pub above : (i : ℕ) → k * size + size ≤ i → slice_index new i ≡ slice_index old i
