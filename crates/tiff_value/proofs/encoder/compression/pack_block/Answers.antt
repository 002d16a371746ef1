use Rattle.tiff_value.specs.lemmas.Packing.{block_run, block_literal, no_two}
use Rattle.tiff_value.proofs.encoder.compression.pack_block.Goals as goal

pub returns-then-run-gt1 : goal.returns-then-run-gt1
returns-then-run-gt1 c =
    block_run _ _ _ _ c.run_len-run.ensures c.if-run-gt1.true (cc (c.in_ok-push.ensures.items, c.in_ok-push-2.ensures.items))

pub returns : goal.returns
returns c =
    block_literal _ _ _ _ c.literal_len-count.ensures (no_two _ _ c.run_len-run.ensures c.if-run-gt1.false) (cc (c.in_ok-push-3.ensures.items, c.in_ok-extend_from_slice.ensures.items))
