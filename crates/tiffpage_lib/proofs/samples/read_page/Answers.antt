use Rattle.std.proofs.Common.{Result, sym, subst}
use Rattle.tiff_base.specs.declared.error.TiffError.{TiffError}
use Rattle.tiff_decode.specs.declared.result.DecodingResult.{DecodingResult}
use Rattle.tiff_decode.specs.declared.script.Call.TheVariants as call
use Rattle.tiff.specs.Result.{decoded_as}
use Rattle.tiffpage_lib.specs.AtPage.{VisitsPage}
use Rattle.tiffpage_lib.specs.Samples.{page_image}
use Rattle.tiffpage_lib.proofs.Replied.{image_second}
use Rattle.tiffpage_lib.proofs.Visits.{image_visit}
use Rattle.tiffpage_lib.proofs.samples.read_page.Goals as goal

pub image_read-requires : goal.image_read-requires
image_read-requires g c =
    image_second c.args.decoder.now c.replies_to_both.new.decoder
    (call.SeekToImage c.args.page) c.in_ok-seek.seek c.in_ok-seek.image c.in_ok-seek.ensures

pub returns : goal.returns
returns g c =
    let P : Result DecodingResult TiffError → Type 0 =
    λ r. VisitsPage decoded_as page_image r c.args.page c.args.decoder.now c.replies_to_both.new.decoder in
    subst P (sym c.and.ensures)
    (image_visit c.args.decoder.now c.replies_to_both.new.decoder c.args.page c.in_ok-seek.seek c.in_ok-seek.image c.seek_result.result c.image_read.result c.in_ok-seek.ensures c.seek_result.ensures c.image_read.ensures)
