use Rattle.std.proofs.Common.{Result, Option, sym, subst}
use Rattle.tiff_base.specs.declared.error.TiffError.{TiffError}
use Rattle.tiff_base.specs.declared.tags.IfdPointer.{IfdPointer}
use Rattle.tiff_decode.specs.declared.script.Call.TheVariants as call
use Rattle.tiffpage_lib.specs.AtPage.{VisitsPage}
use Rattle.tiffpage_lib.specs.Listing.{page_pointer}
use Rattle.tiffpage_lib.proofs.Replied.{pointer_second}
use Rattle.tiffpage_lib.proofs.Visits.{pointer_visit}
use Rattle.tiffpage_lib.proofs.listing.page_pointer.Goals as goal

pub pointer_of-requires : goal.pointer_of-requires
pointer_of-requires g c =
    pointer_second c.args.decoder.now c.replies_to_both.new.decoder
    (call.SeekToImage c.args.page) c.in_ok-seek.seek c.in_ok-seek.pointer c.in_ok-seek.ensures

pub returns : goal.returns
returns g c =
    let P : Result (Option IfdPointer) TiffError → Type 0 =
    λ r. VisitsPage (λ p. p) page_pointer r c.args.page c.args.decoder.now c.replies_to_both.new.decoder in
    subst P (sym c.and.ensures)
    (pointer_visit c.args.decoder.now c.replies_to_both.new.decoder c.args.page c.in_ok-seek.seek c.in_ok-seek.pointer c.seek_result.result c.pointer_of.result c.in_ok-seek.ensures c.seek_result.ensures c.pointer_of.ensures)
