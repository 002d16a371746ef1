use Rattle.std.proofs.Common.{ℕ, subst}
use Rattle.tiff_value.specs.Buffer.{BufferRecord}
use Rattle.tiff_encode.specs.Calls.{write_data_buf}
use Rattle.tiff_encode.specs.Ends.{Ends}
use Rattle.tiff_encode.proofs.encoder.TiffEncoder.append_buffer.Goals as goal

pub returns : goal.returns
returns g c =
    let old = c.args.self.now in
    let type = c.args.buffer.now.data_type in
    let view : ℕ → ℕ = λ n. n in
    subst (λ (b : BufferRecord). Ends view (write_data_buf b old) c.append_ordered.result old c.append_ordered.new.self)
    (λ i. record { order = c.byte_order.ensures i; data_type = type; bytes = c.as_bytes.ensures i })
    (c.append_ordered.ensures type)
