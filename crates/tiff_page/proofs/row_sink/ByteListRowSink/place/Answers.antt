use Rattle.std.proofs.lemmas.Result.{on_ok_weaker}
use Rattle.tiff_page.specs.lemmas.NumberBytes.{plain_put}
use Rattle.tiff_page.proofs.row_sink.ByteListRowSink.place.Goals as goal

pub returns-clause-placed : goal.returns-clause-placed
returns-clause-placed c =
    on_ok_weaker c.append_row.result (plain_put c.args.at c.args.row.now c.args.self.now.bytes.items c.append_row.new.numbers.items) c.append_row.ensures
