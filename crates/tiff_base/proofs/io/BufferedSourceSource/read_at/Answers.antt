use Rattle.std.proofs.Common.{length, rules, ◌<◌}
use Rattle.std.proofs.lemmas.Bool.{false≢true}
use Rattle.tiff_base.proofs.Ahead.{first_ahead, through_buffer}
use Rattle.tiff_base.proofs.io.BufferedSourceSource.read_at.Goals as goal

pub returns-then-buf-len-clause-asked : goal.returns-then-buf-len-clause-asked
returns-then-buf-len-clause-asked g c =
    λ r. c.read_at.ensures.asked (through_buffer (g.S.Source.contents c.args.self.now.source) c.args.at (length c.args.buf.now) r)

pub returns-in_err-hold-clause-asked : goal.returns-in_err-hold-clause-asked
returns-in_err-hold-clause-asked g c =
    let some : 0 < length c.args.buf.now = search rules in
    λ r. absurd (false≢true (c.in_err-hold.ensures.asked (first_ahead (g.S.Source.contents c.args.self.now.source) c.args.at (length c.args.buf.now) some r)))
