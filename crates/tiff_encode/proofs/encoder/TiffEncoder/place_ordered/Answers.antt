use Rattle.std.proofs.Common.{rules}
use Rattle.tiff_value.specs.Buffer.{BufferRecord}
use Rattle.tiff_encode.proofs.Calling.{buf_stopped, buf_refused, buf_ends}
use Rattle.tiff_encode.proofs.encoder.TiffEncoder.place_ordered.Goals as goal

pub returns-in_err-end-clause-answer : goal.returns-in_err-end-clause-answer
returns-in_err-end-clause-answer g c =
    let told =
    let b : BufferRecord =
    record { order = c.args.order; data_type = c.args.field_type; bytes = c.args.bytes.now } in
    buf_stopped (λ f. f) b c.args.self.now c.in_err-end.field-0.0 c.in_err-end.ensures.0 c.in_err-end.ensures.1 in
    search rules

pub returns-in_err-check_order-clause-answer : goal.returns-in_err-check_order-clause-answer
returns-in_err-check_order-clause-answer g c =
    let told =
    let b : BufferRecord =
    record { order = c.args.order; data_type = c.args.field_type; bytes = c.args.bytes.now } in
    buf_refused (λ f. f) b c.args.self.now c.in_err-check_order.field-0.0 c.in_ok-end.ensures.0 c.in_err-check_order.ensures in
    search rules

pub returns-clause-answer : goal.returns-clause-answer
returns-clause-answer g c =
    let b : BufferRecord =
    record { order = c.args.order; data_type = c.args.field_type; bytes = c.args.bytes.now } in
    buf_ends (λ f. f) b c.place_data.result c.args.self.now c.place_data.new.self c.in_ok-end.ensures.0 c.in_ok-check_order.ensures c.place_data.ensures.answer
