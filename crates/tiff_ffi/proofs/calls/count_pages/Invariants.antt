use Rattle.std.proofs.Common.{◌-◌, length}
use Rattle.tiff_decode.specs.Outcome.{chain_of}
use Rattle.tiff_ffi.proofs.Counting.{Counting}
use Rattle.tiff_ffi.proofs.calls.count_pages.Given as goal

abbrev pub invariant-pages : goal.invariant-pages
invariant-pages l = Counting l.fn.decoder l.count l.decoder

abbrev pub decreases-pages : goal.decreases-pages
decreases-pages l = length (chain_of l.fn.decoder).offsets - l.count
