use Rattle.std.proofs.Common.{refl}
use Rattle.tiff_page.specs.PageView as view
use Rattle.tiff_decode.specs.Machine.{Decoding, decoding}
use Rattle.tiff_decode.specs.lemmas.ChainPosition.{enters_read, told_same}
use Rattle.tiff_decode.proofs.decoder.enter_offset.Goals as goal

pub returns-clause-follows : goal.returns-clause-follows
returns-clause-follows g c = λ first here.
    let old : Decoding =
    decoding (g.R.Source.contents c.args.tags.now.source) c.args.tags.now.kind c.args.tags.now.order first
    (g.R.Source.failures c.args.tags.now.source) c.args.standing.now.pointer c.args.standing.now.more (view.page c.args.page.now)
    c.args.tags.now.directory here c.args.tags.now.limits in
    let mid : Decoding =
    record old { bytes = (g.R.Source.contents c.read_directory.new.source).bytes; readable = (g.R.Source.contents c.read_directory.new.source).readable; failures = g.R.Source.failures c.read_directory.new.source } in
    enters_read c.enter_directory.result _ c.args.place.offset c.in_ok-directory.directory old mid _
    (told_same old _ _ c.in_ok-directory.ensures.kept.contents c.in_ok-directory.ensures.kept.swallowed) refl
    c.in_ok-directory.ensures.answer (c.enter_directory.ensures.follows first here)
