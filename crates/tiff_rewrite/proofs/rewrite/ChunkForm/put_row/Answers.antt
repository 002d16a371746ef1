use Rattle.std.proofs.Common.{◌∙◌, arith}
use Rattle.tiff_page.specs.PageView as view
use Rattle.tiff_rewrite.proofs.RowBack.{IsLaidRow, named_row, named_within}
use Rattle.tiff_rewrite.proofs.rewrite.ChunkForm.put_row.Goals as goal

pub put_into-requires-clause-some : goal.put_into-requires-clause-some
put_into-requires-clause-some c =
    omega (arith, c.shown_samples.ensures, c.requires.read.stored.shows)

pub put_into-requires-clause-stored : goal.put_into-requires-clause-stored
put_into-requires-clause-stored c =
    omega (arith, c.shown_samples.ensures, c.requires.read.stored.stores, c.stored_samples.ensures.count)

pub put_into-requires-clause-within : goal.put_into-requires-clause-within
put_into-requires-clause-within c =
    let laid : IsLaidRow (view.page c.args.self.now.page.now) c.args.self.now.color c.args.width c.args.samples.now c.args.row.now =
    record { read = c.requires.read; in_place = c.requires.in_place; few = c.requires.width; long = c.requires.samples; stored = c.requires.row } in
    named_within (view.page c.args.self.now.page.now) c.args.self.now.color c.args.width c.args.samples.now c.args.row.now c.if-page-lt8.false laid
    c.from.result c.shown_samples.result c.from-2.result c.from.ensures c.shown_samples.ensures
    (c.from-2.ensures ∙ c.stored_samples.ensures.count)

pub returns : goal.returns
returns c =
    let laid : IsLaidRow (view.page c.args.self.now.page.now) c.args.self.now.color c.args.width c.args.samples.now c.args.row.now =
    record { read = c.requires.read; in_place = c.requires.in_place; few = c.requires.width; long = c.requires.samples; stored = c.requires.row } in
    named_row (view.page c.args.self.now.page.now) c.args.self.now.color c.args.width c.args.samples.now c.args.row.now c.if-page-lt8.false laid
    c.from.result c.shown_samples.result c.from-2.result c.from.ensures c.shown_samples.ensures
    (c.from-2.ensures ∙ c.stored_samples.ensures.count)
    c.args.self.now.order c.put_into.new.row c.put_into.auto.row (λ i h. omega (arith, c.type_inv.samples i)) c.put_into.ensures.numbers c.put_into.ensures.others
