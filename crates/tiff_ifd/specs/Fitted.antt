-- Numbers that all have to be below a limit.
use Rattle.std.specs.Prelude.{ℕ, List, [], ◌∷◌, Result, Ok, Err, nat_lt, if◌then◌else◌}
use Rattle.tiff_base.specs.declared.error.TiffError.{TiffError}
use Rattle.tiff_base.specs.declared.error.TiffError.TheVariants.{FormatError}
use Rattle.tiff_base.specs.declared.error.TiffFormatError.TheVariants.{InvalidTagValueType}
use Rattle.tiff_base.specs.declared.tags.Tag.{Tag}
use Rattle.tiff_base.specs.Answers.{◌>>=◌}

abbrev pub fit : Tag → ℕ → ℕ → Result ℕ TiffError
fit tag limit n = if nat_lt n limit then Ok n else Err (FormatError (InvalidTagValueType tag))

-- the numbers of a tag, or the error of the first number that is not below the limit
abbrev pub fitted_numbers : Tag → ℕ → List ℕ → Result (List ℕ) TiffError
fitted_numbers tag limit [] = Ok []
fitted_numbers tag limit (n ∷ ns) = do
  m ← fit tag limit n
  ms ← fitted_numbers tag limit ns
  Ok (m ∷ ms)
