use Rattle.std.proofs.Common.{◌≡◌, ◌++◌, take}
use Rattle.tiff_append.proofs.ghost_bytes.GhostBytes.add.Given as goal

-- the bytes so far were added
abbrev pub invariant-loop-byte : goal.invariant-loop-byte
invariant-loop-byte l = l.self ≡ l.fn.self ++ take l.byte-index l.bytes
