use Rattle.std.proofs.Common.{◌≡◌, string_bytes, drop}
use Rattle.std.specs.Vec.Iter.{into_iter_items}
use Rattle.tiffpage_lib.specs.Listing.{lines, after}
use Rattle.tiffpage_lib.proofs.Found.{Between}
use Rattle.tiffpage_lib.proofs.listing.list_tags.Given as goal

abbrev pub invariant-loop-number : goal.invariant-loop-number
invariant-loop-number g l = record {
  between : Between l.fn.decoder (drop l.number-index l.numbers) (into_iter_items l.replies) l.decoder;
  lines : after (string_bytes l.text) (lines l.fn.decoder (drop l.number-index l.numbers))
      ≡ lines l.fn.decoder l.numbers;
}
