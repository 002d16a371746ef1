-- The parts of a directory, cut to the widths of a file kind.
use Rattle.std.proofs.Common.{◌≡◌, ℕ, zero, suc, ◌≤◌, List, [], ◌∷◌, ◌++◌, length, take, drop, refl, ap, sym, arith}
use Rattle.std.proofs.lemmas.List.{take-replicate}
use Rattle.std.specs.Prelude.{replicate}
use Rattle.tiff_base.specs.declared.tags.FileKind.{FileKind}
use Rattle.tiff_base.specs.declared.tags.FileKind.TheVariants.{Classic, Big}
use Rattle.tiff_base.specs.Number.{le}
use Rattle.tiff_value.specs.FileBytes.{offset_len, count_len}
use Rattle.tiff_value.specs.Fields.{filled_field}

pub le_offset : (kind : FileKind) (n : ℕ) → take (offset_len kind) (le 8 n) ≡ le (offset_len kind) n
le_offset Classic n = refl
le_offset Big n = refl

pub le_count : (kind : FileKind) (n : ℕ) → take (count_len kind) (le 8 n) ≡ le (count_len kind) n
le_count Classic n = refl
le_count Big n = refl

pub le_zero : (kind : FileKind) → take (offset_len kind) (le 8 0) ≡ le (offset_len kind) 0
le_zero kind = le_offset kind 0

-- ---- value fields

-- bytes padded with zeros and cut to n
filled_by : (n m : ℕ) (xs : List ℕ) → length xs ≤ n → n ≤ m
    → xs ++ drop (length xs) (replicate n 0) ≡ take n (xs ++ replicate m 0)
filled_by n m [] l h = sym (take-replicate n m 0 h)
filled_by (suc n) m (x ∷ xs) l h =
    ap (λ ys. x ∷ ys) (filled_by n m xs (omega (arith, l)) (omega (arith, h)))
filled_by zero m (x ∷ xs) l h = absurd (omega (arith, l))

-- a value field of eight zeros with bytes over its first zeros
pub filled_whole : (xs : List ℕ) → length xs ≤ 8
    → xs ++ drop (length xs) (replicate 8 0) ≡ filled_field xs
filled_whole xs l = filled_by 8 8 xs l (omega arith)
