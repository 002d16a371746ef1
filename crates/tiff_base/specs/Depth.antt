-- The number of additions to a count.
use Rattle.std.specs.Prelude.{ℕ, ◌+◌}
use Rattle.tiff_base.specs.declared.count.Steps.{Steps, Steps', Held-Steps-last, None', Some'}

abbrev mutual
  pub depth : Steps → ℕ
  depth (Steps' last) = depth_behind last

  pub depth_behind : Held-Steps-last → ℕ
  depth_behind None' = 0
  depth_behind (Some' m t) = depth t + 1
