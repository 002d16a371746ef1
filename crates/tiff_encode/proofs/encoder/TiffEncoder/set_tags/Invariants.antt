use Rattle.std.proofs.Common.{take, Ok}
use Rattle.tiff_encode.specs.Ends.{EndsAsDefined}
use Rattle.tiff_encode.specs.Tagging.{write_fields}
use Rattle.tiff_encode.proofs.encoder.TiffEncoder.set_tags.Given as goal

-- the first tags are set
abbrev pub invariant-loop-value : goal.invariant-loop-value
invariant-loop-value g l =
    EndsAsDefined (write_fields l.fn.fields (take l.value-index l.values) l.fn.self) (Ok l.fields) l.self
