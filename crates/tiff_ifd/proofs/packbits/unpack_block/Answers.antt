use Rattle.std.proofs.Common.{arith, refl, ap, ◌∙◌, ◌-◌, ℕ, get_or}
use Rattle.std.proofs.lemmas.List.{length-take}
use lib.ListN.{replicate}
use Rattle.tiff_ifd.proofs.Ahead.{front_run}
use Rattle.tiff_ifd.proofs.packbits.unpack_block.Goals as goal

pub returns-clause-some : goal.returns-clause-some
returns-clause-some c =
    let header = c.from-n-2.result in (
      omega arith,
      front_run c.args.packed.now c.args.buf.now c.fill.new.self header
          (get_or c.args.packed.now 1 0) (257 - header) c.requires c.from-n-2.ensures refl
          (omega (arith, c.if-header.false, c.if-header-lt128.false, c.from-n-2.ensures)) refl c.if-n-buf-2.false
          (c.fill.ensures.after (λ y h. h) ∙ ap (λ (m : ℕ). replicate m (get_or c.args.packed.now 1 0)) (omega (arith, length-take (257 - header) c.args.buf.now, c.if-n-buf-2.false))),
    )
