use Rattle.std.proofs.Common.{◌≡◌, ◌*◌, ℕ, Option, Some, None, length, ap, sym, ◌∙◌}
use Rattle.std.specs.Option.{SomeIff}
use Rattle.std.specs.Prelude.{IfSome}
use Rattle.tiff_base.specs.Types.{type_size}
use Rattle.tiff_value.specs.ValueLaws.{each_whole}
use Rattle.tiff_value.proofs.Parts.{length-le}
use Rattle.tiff_value.proofs.encoder.writer.samples.SampleRunByteRun.len.Goals as goal

is_product : (r : Option ℕ) (P : Type 0) (v n : ℕ) → SomeIff r P v → v ≡ n → IfSome r (λ x. x ≡ n)
is_product None P v n h e = tt
is_product (Some x) P v n h e = h.1 ∙ e

pub returns : goal.returns
returns g c =
    let size = type_size g.T.TiffValue.value_type in
    let samples = c.args.self.now.samples.now in
    let whole =
    each_whole size g.T.TiffScalar.spelled (λ x. ap length (g.met.T.Sample.by_bits x)
    ∙ length-le 0 size (g.T.Sample.bits x)) samples in
    let width : c.from.result ≡ size = c.from.ensures ∙ c.type_and_len-kind.ensures.len in
    is_product c.checked_mul.result _ _ _ c.checked_mul.ensures (ap (λ (m : ℕ). length samples * m) width ∙ sym whole)
