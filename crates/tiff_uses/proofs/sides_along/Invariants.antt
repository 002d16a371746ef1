use Rattle.std.proofs.Common.{◌-◌, length}
use Rattle.tiff_decode.specs.Outcome.{chain_of}
use Rattle.tiff_uses.proofs.Standing.{Standing, begun}
use Rattle.tiff_uses.proofs.sides_along.Given as goal

abbrev pub invariant-pages : goal.invariant-pages
invariant-pages l = Standing (begun l.fn.decoder) l.sides.items l.decoder

abbrev pub decreases-pages : goal.decreases-pages
decreases-pages l = length (chain_of (begun l.fn.decoder)).offsets - length l.sides.items
