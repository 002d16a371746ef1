use Rattle.tiffpage_lib.proofs.Visits.{directory_moves}
use Rattle.tiffpage_lib.proofs.listing.read_directory.Goals as goal

pub returns-clause-kept : goal.returns-clause-kept
returns-clause-kept g c =
    (directory_moves c.args.decoder.now c.reply_to_one.new.decoder c.args.pointer c.in_ok-reply.reply c.directory_read.result c.in_ok-reply.ensures c.directory_read.ensures).kept
