use Rattle.tiff_value.specs.lemmas.Bytes.{front_kept}
use Rattle.tiff_encode.proofs.encoder.finish.push_offsets.Goals as goal

pub returns-in_err-push_offset-clause-front : goal.returns-in_err-push_offset-clause-front
returns-in_err-push_offset-clause-front c =
    front_kept c.push_offset.new.out.items c.loop-chunk.out.items c.args.out.now.items _ c.in_err-push_offset.ensures.front c.loop-chunk.invariant
