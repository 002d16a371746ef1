use Rattle.std.proofs.Common.{◌≡◌, ℕ, ◌*◌, ◌<◌, get_or}
use Rattle.tiff_base.specs.Number.{number}
use Rattle.tiff_base.specs.SourceAndSink.{bytes_at}
use Rattle.tiff_base.specs.Types.{type_size}
use Rattle.tiff_ifd.specs.Unsigned.{unsigned_width}
use Rattle.tiff_ifd.proofs.read_numbers.fill_numbers.Given as goal

abbrev pub invariant-loop-k : goal.invariant-loop-k
invariant-loop-k l =
    (i : ℕ) → i < l.k → get_or l.numbers i 0
    ≡ number l.order (unsigned_width l.field_type) (bytes_at l.bytes (i * type_size l.field_type) (type_size l.field_type))
