-- A sequence of offsets, and a tree of the first of them (this project's).
use Rattle.std.specs.Prelude.{◌≡◌, ℕ, ◌≤◌, List, length, take, nat_eq}
use Rattle.std.specs.BTreeMap.{is_at}
use Rattle.std.specs.List.{All, list_any}
use Rattle.std.specs.Ordering.{nat_cmp}

-- The keys of a tree are exactly the first `count` offsets.
pub record HasFirst (offsets keys : List ℕ) (count : ℕ) : Type 0 where
  pub within : count ≤ length offsets
  pub same : (offset : ℕ)
      → list_any (is_at (nat_cmp offset)) keys ≡ list_any (nat_eq offset) (take count offsets)

-- No offset is above `highest`, and the keys of a tree are the first `count` offsets.
pub record AreMet (offsets : List ℕ) (highest : ℕ) (keys : List ℕ) (count : ℕ) : Type 0 where
  pub below : All (λ offset. offset ≤ highest) offsets
  pub first : HasFirst offsets keys count
