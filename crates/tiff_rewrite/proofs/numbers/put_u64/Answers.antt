use Rattle.std.proofs.Common.{arith, ap, ◌∙◌}
use Rattle.std.specs.Int.{w64}
use Rattle.tiff_base.specs.Number.{number}
use Rattle.tiff_rewrite.proofs.NumberPlaces.{puts}
use Rattle.tiff_rewrite.proofs.numbers.put_u64.Goals as goal

pub returns : goal.returns
returns c =
    puts c.args.order 8 c.args.row.now c.copy_from_slice.new.self c.args.k c.args.value _
    (omega arith) (omega arith) c.requires
    (ap (number c.args.order w64) c.copy_from_slice.ensures.after ∙ c.u64_bytes.ensures)
