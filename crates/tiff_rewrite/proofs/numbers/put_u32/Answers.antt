use Rattle.std.proofs.Common.{arith, ap, ◌∙◌}
use Rattle.std.specs.Int.{w32}
use Rattle.tiff_base.specs.Number.{number}
use Rattle.tiff_rewrite.proofs.NumberPlaces.{puts}
use Rattle.tiff_rewrite.proofs.numbers.put_u32.Goals as goal

pub returns : goal.returns
returns c =
    puts c.args.order 4 c.args.row.now c.copy_from_slice.new.self c.args.k c.args.value _
    (omega arith) (omega arith) c.requires
    (ap (number c.args.order w32) c.copy_from_slice.ensures.after ∙ c.u32_bytes.ensures)
