-- The bytes that only contracts see.
use Rattle.std.specs.Prelude.{ℕ, List, [], ◌∷◌, ◌++◌}
use Rattle.tiff_append.specs.declared.ghost_bytes.Pushes.{Pushes, Pushes', Held-Pushes-last, None', Some'}

abbrev mutual
  -- the bytes that were pushed, in order
  pub pushed : Pushes → List ℕ
  pushed (Pushes' last byte) = pushed_behind last byte.value

  -- the bytes of the earlier state with the byte behind them; none if there is no earlier state
  pub pushed_behind : Held-Pushes-last → ℕ → List ℕ
  pushed_behind None' byte = []
  pushed_behind (Some' m t) byte = pushed t ++ byte ∷ []
