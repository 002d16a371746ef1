use Rattle.std.proofs.Common.{ℕ, List, subst}
use Rattle.std.proofs.lemmas.List.{take_rest}
use Rattle.tiff_value.specs.Packing.{PacksAtEnd}
use Rattle.tiff_value.specs.lemmas.Packing.{no_block, block_next, all_packed}
use Rattle.tiff_value.proofs.encoder.compression.push_packed.Goals as goal

pub loop-at-init : goal.loop-at-init
loop-at-init c = no_block _ _

pub loop-at-preserved : goal.loop-at-preserved
loop-at-preserved c =
    let bytes = c.args.bytes.now in
    block_next _ bytes _ _ _ _ c.loop-at.invariant (subst (λ (ys : List ℕ). PacksAtEnd c.loop-at.out.items ys c.in_ok-at.field-0 c.pack_block.new.out.items) (take_rest bytes c.loop-at.at) c.in_ok-at.ensures)

pub returns : goal.returns
returns c = all_packed _ _ _ _ c.loop-at.invariant c.loop-at-test.false
