use Rattle.std.proofs.Common.{arith, rules, ◌∙◌}
use Rattle.tiff_base.specs.lemmas.Contents.{same_bytes}
use Rattle.tiff_ifd.specs.lemmas.Unpacking.{more_read_at, room_behind}
use Rattle.tiff_ifd.proofs.packbits.PackBitsCursor.fill.Goals as goal

pub loop-done-preserved : goal.loop-done-preserved
loop-done-preserved g c =
    let told = c.in_ok-n.ensures.kept.contents ∙ c.loop-done.invariant.same in
    record {
      within =
          room_behind c.loop-done.buf c.read_blocks.new.buf _ c.loop-done.done _ c.in_ok-n.n c.loop-done.invariant.within c.read_blocks.auto.buf c.in_ok-n.ensures.piece.in_buffer;
      same = told;
      count = omega (arith, c.in_ok-n.ensures.kept.swallowed, c.loop-done.invariant.count);
      behind = search rules;
      read =
          more_read_at (g.R.Source.contents c.args.source.now).bytes (g.R.Source.contents c.loop-done.source).bytes (g.R.Source.contents c.read_blocks.new.source).bytes c.args.self.now c.loop-done.self c.read_blocks.new.self
          c.loop-done.buf c.read_blocks.new.buf _ c.loop-done.done _ c.in_ok-n.n
          (same_bytes c.loop-done.invariant.same) (same_bytes told) c.loop-done.invariant.within c.read_blocks.auto.buf
          c.loop-done.invariant.read c.in_ok-n.ensures.piece;
    }
