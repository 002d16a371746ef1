use Rattle.std.proofs.Common.{◌-◌, length}
use Rattle.tiff_decode.specs.Outcome.{chain_of}
use Rattle.tiff_pages.proofs.Along.{ListsAlong}
use Rattle.tiff_pages.proofs.pages.list_pages.Given as goal

abbrev pub invariant-pages : goal.invariant-pages
invariant-pages g l = ListsAlong l.fn.decoder l.decoder l.pages.items

abbrev pub decreases-pages : goal.decreases-pages
decreases-pages g l = length (chain_of l.fn.decoder).offsets - length l.pages.items
