use Rattle.std.proofs.Common.{◌≡◌, take}
use Rattle.tiffpage_lib.specs.Listing.{finds}
use Rattle.tiffpage_lib.proofs.listing.calls_to_find.Given as goal

abbrev pub invariant-loop-number : goal.invariant-loop-number
invariant-loop-number l = l.calls.items ≡ finds (take l.number-index l.numbers)
