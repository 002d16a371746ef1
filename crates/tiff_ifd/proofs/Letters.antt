-- The characters of a text, one by one.
use Rattle.std.proofs.Common.{rules, arith, ◌≡◌, ◌++◌, ℕ, List, [], ◌∷◌, length, ap, sym, ◌∙◌, append_assoc, append-nil}
use Rattle.std.specs.Str.{chars, encode_utf8_all, IsUtf8}
use Rattle.std.specs.Char.{encode_utf8}
use Rattle.std.proofs.lemmas.Str.{chars_from_encodes, encodes-append}

pub step : (all more rest left text : List ℕ) (c : ℕ) → encode_utf8_all all ++ rest ≡ text
    → more ≡ all ++ c ∷ [] → rest ≡ encode_utf8 c ++ left
    → encode_utf8_all more ++ left ≡ text
step all more rest left text c h p e =
    rw (p, encodes-append all (c ∷ [])) (append_assoc (encode_utf8_all all) (encode_utf8_all (c
    ∷ [])) left ∙ ap (λ r. encode_utf8_all all ++ r) (ap (λ x. x ++ left) (append-nil (encode_utf8 c)) ∙ sym e) ∙ h)

empty : (xs : List ℕ) → length xs ≡ 0 → xs ≡ []
empty [] h = search rules
empty (x ∷ xs) h = absurd (omega arith)

whole : (all rest text : List ℕ) → encode_utf8_all all ++ rest ≡ text → rest ≡ []
    → encode_utf8_all all ≡ text
whole all rest text h e =
    sym (append-nil (encode_utf8_all all)) ∙ ap (λ r. encode_utf8_all all ++ r) (sym e) ∙ h

-- the characters of a text of which nothing is left
pub all_read : (all rest text : List ℕ) → IsUtf8 text → encode_utf8_all all ++ rest ≡ text
    → length rest ≡ 0 → chars text ≡ all
all_read all rest text is h none =
    sym (chars_from_encodes all text is (whole all rest text h (empty rest none)))
