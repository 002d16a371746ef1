use Rattle.std.proofs.Common.{arith}
use Rattle.tiff_ifd.specs.lemmas.Unpacking.{literal_gives}
use Rattle.tiff_ifd.proofs.packbits.read_literal.Goals as goal

pub returns-clause-bytes : goal.returns-clause-bytes
returns-clause-bytes g c =
    literal_gives (g.R.Source.contents c.args.source.now).bytes c.args.buf.now c.read_at.new.buf c.args.offset c.args.count c.min-most.result c.in_ok-n.n
    c.requires.literal c.requires.begun c.requires.some (omega arith) (omega arith) (omega arith)
    (λ h. omega (arith, h)) c.in_ok-n.ensures.ok
