use Rattle.std.proofs.Common.{Bor, option_map, sym}
use Rattle.tiff_base.specs.Field.{DirectoryRecord}
use Rattle.tiff_decode.specs.Machine.{from_fields}
use Rattle.tiff_decode.proofs.Refusing.{tag_asked}
use Rattle.tiff_decode.proofs.decoder.Decoder.buf_in.Goals as goal

pub returns-in-Err-clause-asked : goal.returns-in-Err-clause-asked
returns-in-Err-clause-asked g c =
    let s = c.self.inside in
    let d = from_fields g.R.Source.contents g.R.Source.failures s.tags s.first s.standing.pointer s.standing.more s.page s.offset in
    tag_asked d _ (option_map (λ (x : Bor DirectoryRecord). x.now) c.args.other) c.args.tag c.in-Some.entry c.in-Err.fault c.self.view_is (sym c.in-Some.ensures) c.in-Err.ensures.asked
