use Rattle.std.proofs.Common.{◌≡◌, ◌++◌, string_bytes, take, flat_map}
use Rattle.tiff_script.specs.Digits.{two_digits}
use Rattle.tiff_script.proofs.digits.push_digits.Given as goal

abbrev pub invariant-loop-byte : goal.invariant-loop-byte
invariant-loop-byte l =
    string_bytes l.text ≡ string_bytes l.initial.text
    ++ flat_map two_digits (take l.byte-index l.bytes)
