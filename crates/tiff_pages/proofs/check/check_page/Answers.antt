use Rattle.std.proofs.Common.{ap, ◌∙◌}
use Rattle.std.specs.Prelude.{is_some}
use Rattle.tiff_pages.proofs.Checked.{came_to, check_made, fault_told, image_told, same_then}
use Rattle.tiff_pages.proofs.check.check_page.Goals as goal
use Rattle.tiff_pages.proofs.check.check_page.Goals.{in-Ok+in_ok-image-in-Ok, in-Err}

pub place_of-place-requires : goal.place_of-place-requires
place_of-place-requires g c =
    let a =
    came_to c.walk_seeks.ensures c.args.decoder.now c.seek_to_image.new.self c.args.number c.seek_to_image.result c.in_ok-entered.entered c.requires c.in_ok-entered.ensures
    c.seek_to_image.ensures.follows in
    ap is_some a.0.along.pointer

pub returns-clause-page : goal.returns-clause-page
returns-clause-page g c =
    let a =
    came_to c.walk_seeks.ensures c.args.decoder.now c.seek_to_image.new.self c.args.number c.seek_to_image.result c.in_ok-entered.entered c.requires c.in_ok-entered.ensures
    c.seek_to_image.ensures.follows in
    check_made c.args.decoder.now c.seek_to_image.new.self c.args.number c.in_ok-entered.entered c.place_of-place.result c.match-entered.image a.0 c.place_of-place.ensures.place
    (elim c.match-entered.branch [
      | in-Ok+in_ok-image-in-Ok w ↦ w.image-is
          ∙ image_told c.seek_to_image.new.self c.place_of-place.new.decoder w.image_sum.new.decoder _ c.in_ok-entered.entered w.image_sum.result _ c.place_of-place.ensures.stays
          w.in-Ok.is w.image_sum.ensures w.in_ok-image-in-Ok.ensures
      | in-Err w ↦ fault_told c.seek_to_image.new.self _ c.in_ok-entered.entered _ w.in-Err.is w.image-is
    ])

pub returns-clause-file : goal.returns-clause-file
returns-clause-file g c =
    let a =
    came_to c.walk_seeks.ensures c.args.decoder.now c.seek_to_image.new.self c.args.number c.seek_to_image.result c.in_ok-entered.entered c.requires c.in_ok-entered.ensures
    c.seek_to_image.ensures.follows in
    same_then c.args.decoder.now c.seek_to_image.new.self c.match-entered.decoder c.args.number c.in_ok-entered.entered a
    (elim c.match-entered.branch [
      | in-Ok+in_ok-image-in-Ok w ↦ w.decoder-is
          ∙ w.image_sum.ensures.stays w.in_ok-image-in-Ok.ensures.1 ∙ c.place_of-place.ensures.stays
      | in-Err w ↦ w.decoder-is ∙ c.place_of-place.ensures.stays
    ])
