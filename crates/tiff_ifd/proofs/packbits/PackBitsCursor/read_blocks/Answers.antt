use Rattle.std.proofs.Common.{arith, List, ℕ, ◌+◌, ◌-◌, sym, subst}
use Rattle.tiff_base.specs.lemmas.Contents.{same_bytes}
use Rattle.tiff_ifd.specs.Unpacking.{left_at, GivesNext}
use Rattle.tiff_ifd.proofs.Ahead.{ahead_told, front_gives}
use Rattle.tiff_ifd.proofs.packbits.PackBitsCursor.read_blocks.Goals as goal

pub returns-clause-piece : goal.returns-clause-piece
returns-clause-piece g c =
    let s = (g.R.Source.contents c.args.source.now).bytes in
    let offset = c.args.self.now in
    let used = c.unpack_blocks-used.result.0 in
    let n = c.unpack_blocks-used.result.1 in
    let read = c.in_ok-held.ensures.ok in
    let told =
    ahead_told s _ c.read_at.new.buf offset.at c.min-most.result c.in_ok-held.held
    (omega (arith, c.min-most.ensures, c.min-wanted.ensures)) read in
    let gives =
    front_gives s _ c.args.buf.now c.unpack_blocks-used.new.buf offset c.in_ok-held.held used n
    (omega (arith, c.count.ensures, c.if-count-gt0.false)) told.0
    (omega (arith, told.1, c.min-most.ensures)) read.in_bytes c.unpack_blocks-used.ensures
    (omega (arith, c.if-n-eq0.false)) in
    subst (λ (z : List ℕ). GivesNext (left_at s offset) c.args.buf.now n c.unpack_blocks-used.new.buf (left_at z (record offset { at = offset.at + used; len = offset.len - used }))) (sym (same_bytes c.in_ok-held.ensures.contents)) gives
