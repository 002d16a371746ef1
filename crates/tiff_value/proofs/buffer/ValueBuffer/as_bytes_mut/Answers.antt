use Rattle.std.proofs.Common.{refl, ap, rules}
use Rattle.std.specs.List.{refill}
use Rattle.tiff_value.proofs.buffer.ValueBuffer.as_bytes_mut.Goals as goal

pub returns : goal.returns
returns c =
    let b = c.self.inside in (
      (
        refl,
        λ w. rw (← c.self.view_is)
            (ap (λ n. record { order = b.order; data_type = b.data_type; bytes = refill n b.bytes.items w }) b.bytes.ok.0),
      ),
      record { writes_back = tt; value = search rules },
    )
