use Rattle.std.proofs.Common.{rules, Ok, Err}
use Rattle.tiff_value.specs.Buffer.{BufferRecord}
use Rattle.tiff_encode.proofs.Calling.{data_buf_stopped, data_buf_refused, data_buf_ends, appends_done, appends_fails}
use Rattle.tiff_encode.proofs.encoder.TiffEncoder.append_ordered.Goals as goal

pub returns-in_err-end : goal.returns-in_err-end
returns-in_err-end g c type =
    let told =
    let b : BufferRecord =
    record { order = c.args.order; data_type = type; bytes = c.args.bytes.now } in
    data_buf_stopped (λ n. n) b c.args.self.now c.in_err-end.field-0.0 c.in_err-end.ensures.0 c.in_err-end.ensures.1 in
    search rules

pub returns-in_err-check_order : goal.returns-in_err-check_order
returns-in_err-check_order g c type =
    let told =
    let b : BufferRecord =
    record { order = c.args.order; data_type = type; bytes = c.args.bytes.now } in
    data_buf_refused (λ n. n) b c.args.self.now c.in_err-check_order.field-0.0 c.in_ok-end.ensures.0 c.in_err-check_order.ensures in
    search rules

pub returns : goal.returns
returns g c type =
    let old = c.args.self.now in
    let b : BufferRecord =
    record { order = c.args.order; data_type = type; bytes = c.args.bytes.now } in
    data_buf_ends (λ n. n) b (Ok c.in_ok-end.end) old c.append.new.self c.in_ok-end.ensures.0 c.in_ok-check_order.ensures
    (appends_done c.args.bytes.now c.in_ok-end.end old c.append.new.self c.in_ok-end.ensures.1 c.in_ok-append.ensures.1)

pub returns-in_err-append : goal.returns-in_err-append
returns-in_err-append g c type =
    let told =
    let old = c.args.self.now in
    let b : BufferRecord =
    record { order = c.args.order; data_type = type; bytes = c.args.bytes.now } in
    data_buf_ends (λ n. n) b (Err c.in_err-append.field-0.0) old c.append.new.self c.in_ok-end.ensures.0 c.in_ok-check_order.ensures
    (appends_fails c.args.bytes.now c.in_err-append.field-0.0 old c.append.new.self c.in_ok-end.ensures.0 c.in_err-append.ensures) in
    search rules
