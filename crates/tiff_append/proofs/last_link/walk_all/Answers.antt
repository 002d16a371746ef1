use Rattle.std.proofs.Common.{List, ℕ}
use Rattle.tiff_base.specs.declared.tags.ByteOrder.TheVariants.{LittleEndian}
use Rattle.tiff_append.proofs.last_link.walk_all.Goals as goal

pub returns-clause-begins : goal.returns-clause-begins
returns-clause-begins g c =
    let bytes : List ℕ = (g.R.Source.contents c.args.source.now).bytes in
    c.offset_of.ensures.begins c.args.first (c.new-walk.ensures.begins c.args.kind LittleEndian bytes)
