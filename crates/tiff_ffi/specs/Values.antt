-- The values of a tag of a page, as numbers and texts of the machine, in a slice of the caller's.
use Rattle.std.specs.Prelude.{ℕ, List, length, Result, Ok}
use Rattle.tiff_base.specs.declared.error.TiffError.{TiffError}
use Rattle.tiff_base.specs.declared.tags.Tag.{Tag}
use Rattle.tiff_base.specs.Answers.{◌>>=◌}
use Rattle.tiff_base.specs.Tags.{tag_of}
use Rattle.tiff_decode.specs.Machine.{Decoding}
use Rattle.tiff_decode.specs.Outcome as outcome
use Rattle.tiff_ffi.specs.Calls.{tags_at_page}
use Rattle.tiff_ffi.specs.List.{filled}

-- how many values there are, and a slice with as many of them in front as fit
abbrev pub counted : {T : Type 0} → Result (List T) TiffError → List T
    → Result (ℕ × List T) TiffError
counted found slice = do
  values ← found
  Ok (length values, filled values slice)

-- the values of a tag of a page, which a decoder finds so, in a slice
abbrev pub tag_values : {T : Type 0} → (Decoding → Tag → Result (List T) TiffError) → List ℕ → ℕ → ℕ
    → List T → Result (ℕ × List T) TiffError
tag_values found file page number slice = do
  d ← tags_at_page file page
  counted (found d (tag_of number)) slice

-- the numbers of a tag of a page, in a slice
abbrev pub tag_numbers : List ℕ → ℕ → ℕ → List ℕ → Result (ℕ × List ℕ) TiffError
tag_numbers = tag_values (λ d tag. (outcome.get_tag_u64_vec d tag).answer)

-- the bits of the floating-point numbers of a tag of a page, in a slice
abbrev pub tag_floats : List ℕ → ℕ → ℕ → List ℕ → Result (ℕ × List ℕ) TiffError
tag_floats = tag_values (λ d tag. (outcome.get_tag_f64_vec d tag).answer)

-- the bytes of the text of a tag of a page, in a slice
abbrev pub tag_text : List ℕ → ℕ → ℕ → List ℕ → Result (ℕ × List ℕ) TiffError
tag_text = tag_values (λ d tag. (outcome.get_tag_ascii_string d tag).answer)
