use Rattle.std.proofs.Common.{◌≡◌, Ok, string_bytes}
use Rattle.tiffpage_lib.specs.Listing.{numbers_at}
use Rattle.tiffpage_lib.proofs.Lines.{listing_more}
use Rattle.tiffpage_lib.proofs.listing.list_directory.Goals as goal

pub returns-clause-answer : goal.returns-clause-answer
returns-clause-answer g c =
    let found : numbers_at c.args.decoder.now c.in-Some.pointer ≡ Ok c.deref.result.now =
    cc (c.in_ok-numbers.ensures.answer, c.deref.ensures.value) in
    listing_more string_bytes c.args.decoder.now c.numbers_at.new.decoder c.args.pointer c.in-Some.pointer c.deref.result.now c.list_tags.result c.list_tags.new.decoder.failures
    c.in-Some.is found c.numbers_at.ensures.kept c.numbers_at.ensures.failures c.list_tags.ensures.answer
