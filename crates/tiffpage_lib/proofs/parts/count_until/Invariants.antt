use Rattle.std.proofs.Common.{ℕ, ◌<◌, ◌≤◌, get_or}
use Rattle.tiffpage_lib.specs.declared.parts.Part.{Part}
use Rattle.tiffpage_lib.proofs.parts.count_until.Given as goal

abbrev pub invariant-loop-i : goal.invariant-loop-i
invariant-loop-i l = (k : ℕ) (d : Part) → k < l.i → (get_or l.parts k d).offset ≤ l.at
