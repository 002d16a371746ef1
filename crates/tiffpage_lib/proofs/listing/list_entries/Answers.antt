use Rattle.std.proofs.Common.{string_bytes}
use Rattle.tiffpage_lib.proofs.Lines.{same_listing}
use Rattle.tiffpage_lib.proofs.Visits.{listing_visit}
use Rattle.tiffpage_lib.proofs.listing.list_entries.Goals as goal

pub returns : goal.returns
returns g c =
    listing_visit string_bytes c.args.decoder.now c.page_pointer.new.decoder c.list_directory.new.decoder c.args.page c.in_ok-pointer.pointer c.list_directory.result
    same_listing c.in_ok-pointer.ensures
    (record { answer = c.list_directory.ensures.answer; kept = c.list_directory.ensures.kept; failures = c.list_directory.ensures.failures })
