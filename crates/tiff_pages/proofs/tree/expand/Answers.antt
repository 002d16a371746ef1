use Rattle.std.proofs.Common.{◌≡◌, true}
use Rattle.tiff_pages.specs.Tree.{is_open}
use Rattle.tiff_pages.proofs.Stepped.{named_behind}
use Rattle.tiff_pages.proofs.tree.expand.Goals as goal

pub returns-in-Ok-clause-listing : goal.returns-in-Ok-clause-listing
returns-in-Ok-clause-listing g c =
    let names : true ≡ is_open c.args.depth c.args.item =
    (let e = c.is_open-names.ensures in let t = c.if-not-names.false in cc) in
    named_behind c.list_tags.result c.args.decoder.now c.directory_at.new.decoder c.args.depth c.args.listing.now c.push.new.self c.list_tags.new.listing c.args.item c.in-Ok.directory
    c.in_ok-directory.field-0 c.in_ok-directory.ensures.shows names c.in_ok-push.ensures c.in_ok-directory.ensures.directory c.in-Ok.is c.list_tags.ensures.listing
