use Rattle.std.proofs.Common.{◌≡◌, map, take}
use Rattle.tiffpage_lib.specs.Parts.{pieces, seen_piece}
use Rattle.tiffpage_lib.proofs.parts.windows_of.Given as goal

abbrev pub invariant-loop-part : goal.invariant-loop-part
invariant-loop-part l = map seen_piece l.windows.items ≡ pieces (take l.part-index l.parts)
