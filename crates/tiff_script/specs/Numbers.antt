-- The whole numbers that words are.
use Rattle.std.specs.Prelude.{ℕ, ◌-◌, ◌^◌, Bool, ◌&&◌, ℤ, pos, neg_ℤ, List, Option, None, Some, codes, drop, length, nat_le, nat_lt, if◌then◌else◌}
use Rattle.std.specs.Char.{digit_value}
use Rattle.std.specs.List.{list_all, starts_with}
use Rattle.std.specs.Option.{option_and_then}
use Rattle.std.specs.Str.Parse.{digits_value}
use lib.Dec.{eqb}

-- whether these are digits, one or more
abbrev pub are_digits : ℕ → List ℕ → Bool
are_digits radix digits =
    nat_lt 0 (length digits) && list_all (λ c. nat_lt (digit_value c) radix) digits

-- the number that digits are, if it has 64 bits at most
abbrev pub number : ℕ → List ℕ → Option ℕ
number radix digits =
    if are_digits radix digits && nat_lt (digits_value radix digits) (2 ^ 64)
    then Some (digits_value radix digits) else None

-- whether a word has `0x` in front
abbrev pub is_hexadecimal : List ℕ → Bool
is_hexadecimal word = starts_with eqb word (codes "0x")

-- the number that a word is, without a sign: in decimal, or in hexadecimal behind `0x`
unfoldable pub magnitude : List ℕ → Option ℕ
magnitude word =
    if is_hexadecimal word then number 16 (drop 2 word) else number 10 word

-- the number of so many bits that a word is
abbrev pub unsigned : ℕ → List ℕ → Option ℕ
unsigned bits word =
    option_and_then (λ n. if nat_lt n (2 ^ bits) then Some n else None) (magnitude word)

-- the number with a sign of so many bits that a word is: `-` stands in front of one below 0
abbrev pub signed : ℕ → List ℕ → Option ℤ
signed bits word =
    if starts_with eqb word (codes "-")
    then option_and_then (λ n. if nat_le n (2 ^ (bits - 1)) then Some (neg_ℤ (pos n)) else None)
    (magnitude (drop 1 word))
    else option_and_then (λ n. if nat_lt n (2 ^ (bits - 1)) then Some (pos n) else None)
    (magnitude word)
