use Rattle.std.proofs.Common.{◌∙◌}
use Rattle.tiff_pages.proofs.Checked.{fault_shown, image_shown}
use Rattle.tiff_pages.proofs.check.check_shown.Goals as goal
use Rattle.tiff_pages.proofs.check.check_shown.Goals.{in-Ok+in_ok-image-in-Ok, in-Err}

pub returns-clause-check : goal.returns-clause-check
returns-clause-check g c =
    elim c.match-shown.branch [
      | in-Ok+in_ok-image-in-Ok w ↦
          image_shown c.args.decoder.now c.show_directory.new.self w.image_sum.new.decoder c.args.place _ c.show_directory.result c.in_ok-shown.shown w.image_sum.result c.match-shown.image
          c.in_ok-shown.ensures w.in-Ok.is c.show_directory.ensures.follows w.image_sum.ensures
          (w.image-is ∙ w.in_ok-image-in-Ok.ensures.0, w.in_ok-image-in-Ok.ensures.1)
      | in-Err w ↦ fault_shown c.args.decoder.now c.show_directory.new.self c.args.place w.in-Err.fault c.show_directory.result c.in_ok-shown.shown c.match-shown.image
          c.in_ok-shown.ensures w.in-Err.is c.show_directory.ensures.follows w.image-is
    ]
