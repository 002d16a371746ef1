-- Pairs of digits that are read one after another.
use Rattle.std.proofs.Common.{◌≡◌, ℕ, ◌<◌, ◌+◌, List, [], ◌∷◌, ◌++◌, length, take, drop, get_or, ap, sym, ◌∙◌, refl, arith, append_assoc, append-nil, slice_index, ◌≤◌, ◌-◌, Option, None, Some}
use Rattle.std.specs.Prelude.{◌==◌, ◌/◌, ◌%◌, ◌*◌, ◌&&◌, Bool, true, suc, false, flat_map}
use Rattle.std.specs.Fmt.{digit_glyph}
use Rattle.std.specs.Bool.{then_some}
use Rattle.std.specs.Option.{option_and_then, option_map}
use Rattle.std.proofs.lemmas.Bool.Decides.{nat_tests}
use Rattle.std.proofs.lemmas.List.{flat_map_more, take_all, take_more}
use Rattle.tiff_script.specs.Digits.{bytes_in, digit, pair_byte, pairs, two_digits}

-- These bytes are read, and the rest of the digits is left.
pub record AreRead (digits bytes rest : List ℕ) : Type 0 where
  pub left : pairs digits ≡ option_map (λ more. bytes ++ more) (pairs rest)

pub none_read : (digits : List ℕ) → AreRead digits [] digits
none_read digits = record { left = unchanged (pairs digits) }
  where
    unchanged : (o : Option (List ℕ)) → o ≡ option_map (λ more. [] ++ more) o
    unchanged None = refl
    unchanged (Some more) = refl

-- The digits behind the first two.
behind_two : (high low : ℕ) (behind : List ℕ)
    → take (length (high ∷ low ∷ behind) - 2) (drop 2 (high ∷ low ∷ behind)) ≡ behind
behind_two high low behind =
    let n : length (high ∷ low ∷ behind) - 2 ≡ length behind = omega arith in
    rw n (take_all (length behind) behind (omega arith))

-- One byte more in front of those that are left.
pushed : (bytes : List ℕ) (byte : ℕ) (o : Option (List ℕ))
    → option_map (λ more. bytes ++ more) (option_and_then (λ more. Some (byte ∷ more)) o)
    ≡ option_map (λ more. (bytes ++ byte ∷ []) ++ more) o
pushed bytes byte None = refl
pushed bytes byte (Some more) =
    ap (λ (xs : List ℕ). Some xs) (sym (append_assoc bytes (byte ∷ []) more))

-- One more byte is read.
pub one_read : (digits bytes rest : List ℕ) (byte : ℕ) → 2 ≤ length rest
    → pair_byte (slice_index rest 0) (slice_index rest 1) ≡ Some byte → AreRead digits bytes rest
    → AreRead digits (bytes ++ (byte ∷ [])) (take (length rest - 2) (drop 2 rest))
one_read digits bytes [] byte two pair r = absurd (omega (arith, two))
one_read digits bytes (high ∷ []) byte two pair r = absurd (omega (arith, two))
one_read digits bytes (high ∷ low ∷ behind) byte two pair r =
    rw (behind_two high low behind) (record {
      left =
          r.left ∙ ap (λ o. option_map (λ more. bytes
          ++ more) (option_and_then (λ b. option_and_then (λ more. Some (b ∷ more)) (pairs behind)) o)) pair ∙ pushed bytes byte (pairs behind);
    })

-- The digits are no bytes if the next two are none.
pub no_pair : (digits bytes rest : List ℕ) → 2 ≤ length rest
    → pair_byte (slice_index rest 0) (slice_index rest 1) ≡ None → AreRead digits bytes rest
    → pairs digits ≡ None
no_pair digits bytes [] two none r = absurd (omega (arith, two))
no_pair digits bytes (high ∷ []) two none r = absurd (omega (arith, two))
no_pair digits bytes (high ∷ low ∷ behind) two none r =
    r.left ∙ ap (λ o. option_map (λ more. bytes
    ++ more) (option_and_then (λ b. option_and_then (λ more. Some (b ∷ more)) (pairs behind)) o)) none

-- What is read where fewer than two digits are left.
pub ended : {X : Type 0} (items : X → List ℕ) (v : X) (digits rest : List ℕ) → length rest < 2
    → AreRead digits (items v) rest
    → pairs digits ≡ option_map items (then_some (length rest == 0) v)
ended items v digits [] few r = rw append-nil at r.left
ended items v digits (x ∷ []) few r = r.left
ended items v digits (x ∷ y ∷ rest) few r = absurd (omega (arith, few))

-- The digits of one more byte.
pub digits_more : (new text xs : List ℕ) (i x : ℕ) → i < length xs
    → new ≡ (text ++ flat_map two_digits (take i xs)) ++ two_digits (get_or xs i x)
    → new ≡ text ++ flat_map two_digits (take (i + 1) xs)
digits_more new text xs i x h e =
    rw (e, take_more xs i x h) (flat_map_more two_digits text (take i xs) (get_or xs i x))

-- A digit is read as the number that it is written for.
digit_written : (n : ℕ) → n < 16 → digit (digit_glyph false n) ≡ Some n
digit_written n small = grind (arith, nat_tests)

byte_written : (byte : ℕ) → byte < 256
    → pair_byte (digit_glyph false (byte / 16)) (digit_glyph false (byte % 16)) ≡ Some byte
byte_written byte small =
    let h : byte / 16 < 16 = omega arith in
    let l : byte % 16 < 16 = omega arith in
    let whole : byte / 16 * 16 + byte % 16 ≡ byte = omega arith in
    rw (digit_written (byte / 16) h, digit_written (byte % 16) l, whole) refl

-- Bytes are read from the digits that they are written as.
digits_of : (bytes : List ℕ) → ((i : ℕ) → get_or bytes i 0 < 256)
    → pairs (flat_map two_digits bytes) ≡ Some bytes
digits_of [] small = refl
digits_of (byte ∷ bytes) small =
    rw (byte_written byte (small 0), digits_of bytes (λ i. small (suc i))) refl

no_dash : (b : Bool) → (b && false) ≡ false
no_dash true = refl
no_dash false = refl

text_read : (byte : ℕ) (bytes : List ℕ) → ((i : ℕ) → get_or (byte ∷ bytes) i 0 < 256)
    → bytes_in (flat_map two_digits (byte ∷ bytes)) ≡ Some (byte ∷ bytes)
text_read byte bytes small =
    rw (no_dash (digit_glyph false (byte / 16) == 45)) (digits_of (byte ∷ bytes) small)

pub text_of : (bytes : List ℕ) → (length bytes == 0) ≡ false → ((i : ℕ) → get_or bytes i 0 < 256)
    → bytes_in (flat_map two_digits bytes) ≡ Some bytes
text_of [] some small = absurd (cc (some))
text_of (byte ∷ bytes) some small = text_read byte bytes small
