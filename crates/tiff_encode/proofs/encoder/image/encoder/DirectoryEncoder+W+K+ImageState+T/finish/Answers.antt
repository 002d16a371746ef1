use Rattle.std.proofs.Common.{Ok, Err}
use Rattle.tiff_encode.proofs.Image.Ends.{end_left, end_shown}
use Rattle.tiff_encode.proofs.Shown.Images.{images_show_by}
use Rattle.tiff_encode.proofs.Open.Ends.{ends_shown_by}
use Rattle.tiff_encode.proofs.PageTold.Page.{page_told}
use Rattle.tiff_encode.proofs.encoder.image.encoder.DirectoryEncoder+W+K+ImageState+T.finish.Goals as goal

pub returns-in-Ok-clause-answer : goal.returns-in-Ok-clause-answer
returns-in-Ok-clause-answer g c = (c.in-Ok.field-0, c.in-Ok.ensures)

pub returns-in-Err-clause-answer : goal.returns-in-Err-clause-answer
returns-in-Err-clause-answer g c = c.in-Err.ensures

pub returns-in-Ok-clause-leaves : goal.returns-in-Ok-clause-leaves
returns-in-Ok-clause-leaves g c m s p =
    end_left c.args.self.state c.args.self.encoder.now c.finish_image-done.new.self m c.fact_fits.ensures c.fact_short.ensures s p (Ok tt) (c.in-Ok.field-0, c.in-Ok.ensures)

pub returns-in-Ok-clause-shows : goal.returns-in-Ok-clause-shows
returns-in-Ok-clause-shows g c m samples s p held left =
    end_shown c.args.self.state c.args.self.encoder.now c.finish_image-done.new.self m c.fact_fits.ensures c.fact_short.ensures s p
    (ends_shown_by (images_show_by page_told)) samples (Ok tt) (c.in-Ok.field-0, c.in-Ok.ensures) held left

pub returns-in-Err-clause-leaves : goal.returns-in-Err-clause-leaves
returns-in-Err-clause-leaves g c m s p =
    end_left c.args.self.state c.args.self.encoder.now c.finish_image-done.new.self m c.fact_fits.ensures c.fact_short.ensures s p (Err c.in-Err.fault) c.in-Err.ensures

pub returns-in-Err-clause-shows : goal.returns-in-Err-clause-shows
returns-in-Err-clause-shows g c m samples s p held left =
    end_shown c.args.self.state c.args.self.encoder.now c.finish_image-done.new.self m c.fact_fits.ensures c.fact_short.ensures s p
    (ends_shown_by (images_show_by page_told)) samples (Err c.in-Err.fault) c.in-Err.ensures held left
