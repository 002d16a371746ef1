-- Bytes as hexadecimal digits.
use Rattle.std.specs.Prelude.{ℕ, ◌+◌, ◌-◌, ◌*◌, ◌/◌, ◌%◌, ◌&&◌, List, [], ◌∷◌, Option, None, Some, codes, false, if◌then◌else◌, nat_le}
use Rattle.std.specs.Fmt.{digit_glyph}
use Rattle.std.specs.Str.{bytes_eq}
use Rattle.tiff_script.specs.Line.{◌>>=◌}

-- the number that a hexadecimal digit is, of `0` to `9` and `a` to `f`
abbrev pub digit : ℕ → Option ℕ
digit c =
    if nat_le 48 c && nat_le c 57 then Some (c - 48)
    else (if nat_le 97 c && nat_le c 102 then Some (c - 97 + 10) else None)

-- the byte that two digits are
abbrev pub pair_byte : ℕ → ℕ → Option ℕ
pair_byte high low = do
  h ← digit high
  l ← digit low
  Some (h * 16 + l)

-- the bytes that pairs of digits are
abbrev pub pairs : List ℕ → Option (List ℕ)
pairs [] = Some []
pairs (c ∷ []) = None
pairs (high ∷ low ∷ more) = do
  byte ← pair_byte high low
  bytes ← pairs more
  Some (byte ∷ bytes)

-- the bytes that a word is: two digits for each; `-`, and the empty word, for no bytes
abbrev pub bytes_in : List ℕ → Option (List ℕ)
bytes_in word = if bytes_eq word (codes "-") then Some [] else pairs word

-- a byte as two hexadecimal digits, in small letters
abbrev pub two_digits : ℕ → List ℕ
two_digits byte = digit_glyph false (byte / 16) ∷ digit_glyph false (byte % 16) ∷ []
