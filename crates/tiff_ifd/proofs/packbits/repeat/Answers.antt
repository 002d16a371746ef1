use Rattle.std.proofs.Common.{arith, ℕ, ap, ◌∙◌}
use Rattle.std.proofs.lemmas.List.{length-take}
use lib.ListN.{replicate}
use Rattle.tiff_ifd.specs.lemmas.Unpacking.{run_gives}
use Rattle.tiff_ifd.proofs.packbits.repeat.Goals as goal

pub returns-clause-bytes : goal.returns-clause-bytes
returns-clause-bytes c = λ bytes.
    run_gives bytes c.args.buf.now c.fill.new.self c.args.offset c.args.value c.args.count c.min-n.result c.requires.run (omega arith) (omega arith) (omega arith)
    (c.fill.ensures.after (λ y h. h) ∙ ap (λ (m : ℕ). replicate m c.args.value) (omega (arith, length-take c.min-n.result c.args.buf.now)))
