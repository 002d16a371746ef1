use Rattle.tiff_value.specs.lemmas.Bytes.{front_kept}
use Rattle.tiff_encode.proofs.encoder.image.color.push_copies.Goals as goal

pub returns-in_err-push_to-clause-front : goal.returns-in_err-push_to-clause-front
returns-in_err-push_to-clause-front g c =
    front_kept c.push_to.new.out.items c.loop.out.items c.args.out.now.items _ c.in_err-push_to.ensures.front c.loop.invariant
