use Rattle.std.proofs.Common.{arith, rules, ◌≡◌, ◌∙◌, drop, length, length-drop}
use Rattle.std.proofs.lemmas.List.{length-append, length-take-le}
use Rattle.tiff_base.specs.lemmas.Contents.{same_bytes}
use Rattle.tiff_ifd.specs.Unpacking.{left_at}
use Rattle.tiff_page.specs.lemmas.ChunkRows.{more_passed}
use Rattle.tiff_page.proofs.chunk_data.pass_packed.Goals as goal

pub loop-left-preserved : goal.loop-left-preserved
loop-left-preserved g c =
    let bytes = (g.R.Source.contents c.args.source.now).bytes in
    let same = (same_bytes c.loop-left.invariant.same) in
    let told = c.in-Ok.ensures.kept.contents ∙ c.loop-left.invariant.same in
    let given = rw (same_bytes told, same) at c.in-Ok.ensures.filled in
    let len : length c.read_exact.new.buf ≡ c.min-len.result =
    c.read_exact.auto.buf ∙ length-take-le c.min-len.result c.loop-left.piece
    (omega (arith, c.loop-left.invariant.room)) in
    record {
      within = omega (arith, c.loop-left.invariant.within);
      room =
          omega (arith, c.loop-left.invariant.room, len, length-append c.read_exact.new.buf (drop c.min-len.result c.loop-left.piece), length-drop c.min-len.result c.loop-left.piece);
      same = told;
      count = omega (arith, c.in-Ok.ensures.kept.swallowed, c.loop-left.invariant.count);
      behind = search rules;
      passed =
          more_passed (left_at bytes c.args.position.now) (left_at bytes c.loop-left.position)
          (left_at bytes c.read_exact.new.self) c.read_exact.new.buf c.args.n c.loop-left.left c.min-len.result c.loop-left.invariant.within (omega arith) len c.loop-left.invariant.passed given;
    }
