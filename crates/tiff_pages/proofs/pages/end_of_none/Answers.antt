use Rattle.std.proofs.Common.{◌∙◌}
use Rattle.tiff_pages.proofs.NoPages.{found_none}
use Rattle.tiff_pages.proofs.pages.end_of_none.Goals as goal

pub returns-clause-end : goal.returns-clause-end
returns-clause-end g c =
    let found =
    found_none c.args.decoder.now c.seek_to_image.new.self c.seek_to_image.result c.in_ok-sought.sought c.requires c.in_ok-sought.ensures
    (rw c.rewind.ensures at c.seek_to_image.ensures.follows) in
    c.err.ensures.value ∙ found.0

pub returns-clause-past : goal.returns-clause-past
returns-clause-past g c =
    let found =
    found_none c.args.decoder.now c.seek_to_image.new.self c.seek_to_image.result c.in_ok-sought.sought c.requires c.in_ok-sought.ensures
    (rw c.rewind.ensures at c.seek_to_image.ensures.follows) in
    found.1
