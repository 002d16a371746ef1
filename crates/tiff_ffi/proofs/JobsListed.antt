-- The jobs that bytes spell.
use Rattle.std.proofs.Common.{◌≡◌, ℕ, List, refl}
use Rattle.std.specs.Prelude.{Bool, true, false, Err, if◌then◌else◌}
use Rattle.std.specs.Str.{IsUtf8, is_utf8}
use Rattle.std.proofs.lemmas.Str.{IsUtf8-from_is_utf8, is_utf8-from_IsUtf8}
use Rattle.tiff_script.specs.Jobs.{jobs_spelled}
use Rattle.tiff_ffi.specs.Jobs.{jobs_in}

-- Bytes that are a text.
pub of_text : (bytes : List ℕ) → IsUtf8 bytes → jobs_in bytes ≡ jobs_spelled bytes
of_text bytes h = rw (is_utf8-from_IsUtf8 bytes h) refl

-- Bytes that are none.
pub of_no_text : (bytes : List ℕ) → (IsUtf8 bytes → ⊥) → jobs_in bytes ≡ Err 0
of_no_text bytes h = by_test (is_utf8 bytes) refl
  where
    by_test : (b : Bool) → is_utf8 bytes ≡ b → (if b then jobs_spelled bytes else Err 0) ≡ Err 0
    by_test true e = absurd (h (IsUtf8-from_is_utf8 bytes e))
    by_test false e = refl
