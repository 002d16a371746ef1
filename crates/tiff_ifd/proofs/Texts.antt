-- An ASCII text is UTF-8, also without the zeros at its ends.
use Rattle.std.proofs.Common.{◌≡◌, ◌<◌, ℕ, Bool, true, false, List, ◌&&◌, refl, arith, length, ◌-◌}
use Rattle.std.specs.Prelude.{slice_index, if◌then◌else◌, Ok, Err}
use Rattle.std.specs.Str.{IsAscii, is_utf8}
use Rattle.std.specs.List.{list_all, prefix_len}
use Rattle.std.proofs.lemmas.Bool.Decides.{nat_tests}
use Rattle.std.proofs.lemmas.List.Sums.{AllPass-from_list_all}
use Rattle.std.proofs.lemmas.Str.{is_utf8-from_IsUtf8, IsUtf8-from_is_utf8, IsUtf8-from_ascii, IsAscii-take, IsAscii-drop}
use Rattle.std.proofs.lemmas.Str.Ascii.{IsAscii-from_all}
use Rattle.tiff_base.specs.declared.error.TiffError.TheVariants.{FormatError}
use Rattle.tiff_base.specs.declared.error.TiffFormatError.TheVariants.{InvalidTag}
use Rattle.tiff_ifd.specs.PlainValue as f
use Rattle.tiff_ifd.specs.FieldValue.{is_ascii_byte, inline_text, without_zeros, is_zero}

pub ruleset utf8 = (is_utf8-from_IsUtf8, IsUtf8-from_is_utf8)

ascii_byte : (x : ℕ) → is_ascii_byte x ≡ true → x < 128
ascii_byte x h = grind (arith, nat_tests)

left : (x y : Bool) → (x && y) ≡ true → x ≡ true
left true y h = refl
left false y h = h

all_ascii : (bs : List ℕ) → list_all is_ascii_byte bs ≡ true → IsAscii bs
all_ascii bs h =
    IsAscii-from_all bs (λ k d l. ascii_byte _ (AllPass-from_list_all is_ascii_byte bs h k d l))

trimmed_is_utf8 : (bs : List ℕ) → IsAscii bs → is_utf8 (without_zeros bs) ≡ true
trimmed_is_utf8 bs h =
    is_utf8-from_IsUtf8 (without_zeros bs) (IsUtf8-from_ascii (without_zeros bs) (IsAscii-take _ _ (IsAscii-drop bs (prefix_len is_zero bs) h)))

pub inline_is_utf8 : (bs : List ℕ)
    → (list_all is_ascii_byte bs && is_zero (slice_index bs (length bs - 1))) ≡ true
    → (if is_utf8 (without_zeros bs) then
    Ok (f.ascii (without_zeros bs)) else Err (FormatError InvalidTag)) ≡ inline_text bs
inline_is_utf8 bs h = rw (h, trimmed_is_utf8 bs (all_ascii bs (left _ _ h))) refl
