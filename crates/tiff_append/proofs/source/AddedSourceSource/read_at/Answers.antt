use Rattle.std.proofs.Common.{◌-◌, List, ℕ, IfOk, subst}
use Rattle.tiff_base.specs.SourceAndSink.{Reads}
use Rattle.tiff_append.specs.Source.{added_bytes}
use Rattle.tiff_append.proofs.Added.{told_part}
use Rattle.tiff_append.proofs.source.AddedSourceSource.read_at.Goals as goal

pub returns-clause-ok : goal.returns-clause-ok
returns-clause-ok c =
    let part : List ℕ = c.part_at-from.result.0.now in
    let from : ℕ = c.part_at-from.result.1 in
    let Told : List ℕ → Type 0 =
    λ bytes. IfOk c.read_at.result (λ n. Reads bytes (c.args.at - from) c.args.buf.now n c.read_at.new.buf) in
    told_part (added_bytes c.args.self.now) part from c.args.at c.args.buf.now c.read_at.result c.read_at.new.buf c.part_at-from.ensures
    (subst Told c.new.ensures c.read_at.ensures.ok)
