use Rattle.std.proofs.Common.{◌≡◌, ◌-◌}
use Rattle.tiff_base.specs.Windows.{AreWindowsOf}
use Rattle.tiffpage_lib.specs.Parts.{AreInOrder, Saw, pieces, total, windows_of}
use Rattle.tiffpage_lib.proofs.parts.answer_by_parts.Given as goal

abbrev pub invariant-asking : goal.invariant-asking
invariant-asking g l =
    (l.parts.len ≡ l.len) × AreInOrder l.len 0 (pieces l.parts.list.items)
    × Saw g.F.Files.reads_part l.name l.len g.S.SeenFile.bytes (AreWindowsOf g.S.SeenFile.bytes (windows_of l.len (pieces l.parts.list.items))) l.fn.files l.files

abbrev pub decreases-asking : goal.decreases-asking
decreases-asking g l = l.len - total (pieces l.parts.list.items)
