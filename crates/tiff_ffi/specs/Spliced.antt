-- A file of pages: the bytes of their samples, and the other bytes.
use Rattle.std.specs.Prelude.{◌≡◌, ℕ, List, [], ◌∷◌, ◌++◌, length, take, drop, slice_index_or}

-- Bytes and samples, made one list: of each of the first pages so many of the bytes, and then its
-- samples; and the bytes that are left.
abbrev pub spliced : List ℕ → List ℕ → List (List ℕ) → List ℕ
spliced around (n ∷ fronts) (samples ∷ rest) =
    take n around ++ (samples ++ spliced (drop n around) fronts rest)
spliced around _ _ = around

-- the samples of the page of this number; none if there is no such page
abbrev pub samples_at : List (List ℕ) → ℕ → List ℕ
samples_at samples page = slice_index_or samples page []

-- In a file so spliced, some of the bytes that aren't samples are one behind the other: `len` of
-- them, from index `from` of these bytes on, are at offset `at`.
pub record IsStretch (around fronts : List ℕ) (samples : List (List ℕ)) (at from len : ℕ)
    : Type 0 where
  pub front : List ℕ
  pub bytes : List ℕ
  pub rest : List ℕ
  pub around_is : around ≡ front ++ (bytes ++ rest)
  pub front_len : length front ≡ from
  pub bytes_len : length bytes ≡ len
  pub before : List ℕ
  pub after : List ℕ
  pub before_len : length before ≡ at
  pub is : (over : List ℕ) → length over ≡ len
      → spliced (front ++ (over ++ rest)) fronts samples ≡ before ++ (over ++ after)
