use Rattle.std.proofs.Common.{◌≡◌, ℕ, ◌+◌, ◌^◌, List, length, map, ap, sym, ◌∙◌, subst, arith}
use Rattle.std.proofs.lemmas.List.{length-map}
use Rattle.std.proofs.lemmas.Result.{err_from_is_err_and}
use Rattle.tiff_base.specs.Types.{type_size}
use Rattle.tiff_base.specs.declared.tags.Predictor.TheVariants.{Horizontal}
use Rattle.tiff_value.specs.ColorType.{sample_number}
use Rattle.tiff_value.specs.Differences.{stored_difference}
use Rattle.tiff_value.specs.Written.{writer_after, IsCut}
use Rattle.tiff_value.proofs.Bands.{bytes_of, band_next, band_cut, band_part, not_stopped, row_bytes}
use Rattle.tiff_value.specs.lemmas.Put.{writer_none}
use Rattle.tiff_value.proofs.encoder.writer.TiffWriter.write_row.Goals as goal

pub loop-at-init : goal.loop-at-init
loop-at-init g c = record {
  within = omega arith;
  offset = omega (arith, c.offset-start.ensures.offset, c.offset-start.ensures.within);
  same = writer_none c.args.self.now;
  fresh = c.requires.fresh;
}

pub returns-in_err-write_raw : goal.returns-in_err-write_raw
returns-in_err-write_raw g c =
    let answered = err_from_is_err_and c.from_residual.result c.from_residual.ensures.1 in
    let size = type_size g.T.TiffValue.value_type in
    let numbers : List ℕ = map (sample_number size g.T.Sample.bits) c.args.row.now in
    let F = stored_difference Horizontal (256 ^ size) (length numbers) c.args.stride numbers in
    let long : length numbers ≡ length c.args.row.now =
    length-map c.args.row.now (sample_number size g.T.Sample.bits) in
    let i = c.loop-at.invariant in
    let e = c.in_err-write_raw.field-0.0 in
    let mid = c.loop-at.self in
    let new = c.write_raw.new.self in
    let fresh = ap (λ w. w.fault) i.same ∙ i.fresh in
    let part =
    c.put_part.ensures.part (band_part (length c.args.row.now) c.loop-at.room c.loop-at.at c.min.result size c.from-width.result (omega (arith, c.min.ensures, i.within, c.loop-at-test.true))
    (c.from-width.ensures ∙ c.type_and_len-kind.ensures.len) (omega (arith, c.min.ensures)) (c.loop-at.auto.room ∙ c.requires.room)) in
    let cut =
    subst (λ (xs : List ℕ). IsCut xs e mid new) part (not_stopped c.put_part.new.out e mid new fresh c.in_err-write_raw.ensures) in
    rw (answered.1, answered.2) (subst (λ (xs : List ℕ). IsCut xs e c.args.self.now new) (sym (row_bytes size (256 ^ size) c.args.stride numbers c.requires.stride.0 (omega (arith, c.requires.stride.1, long))))
    (band_cut size F c.args.self.now i.offset c.loop-at.at (c.loop-at.at
    + c.min.result) (length numbers) mid new e (omega arith)
    (omega (arith, c.min.ensures, i.within, c.loop-at-test.true, long)) i.fresh i.same cut))

pub loop-at-preserved : goal.loop-at-preserved
loop-at-preserved g c =
    let size = type_size g.T.TiffValue.value_type in
    let numbers : List ℕ = map (sample_number size g.T.Sample.bits) c.args.row.now in
    let F = stored_difference Horizontal (256 ^ size) (length numbers) c.args.stride numbers in
    let i = c.loop-at.invariant in
    let part =
    c.put_part.ensures.part (band_part (length c.args.row.now) c.loop-at.room c.loop-at.at c.min.result size c.from-width.result (omega (arith, c.min.ensures, i.within, c.loop-at-test.true))
    (c.from-width.ensures ∙ c.type_and_len-kind.ensures.len) (omega (arith, c.min.ensures)) (c.loop-at.auto.room ∙ c.requires.room)) in
    record {
      within = omega (arith, c.min.ensures, i.within, c.loop-at-test.true);
      offset = i.offset;
      same =
          band_next size F c.args.self.now i.offset c.loop-at.at (c.loop-at.at
          + c.min.result) c.loop-at.self c.write_raw.new.self (omega arith) i.same
          (c.in_ok-write_raw.ensures.1 ∙ ap (writer_after c.loop-at.self) part);
      fresh = i.fresh;
    }

pub returns : goal.returns
returns g c =
    let size = type_size g.T.TiffValue.value_type in
    let numbers : List ℕ = map (sample_number size g.T.Sample.bits) c.args.row.now in
    let F = stored_difference Horizontal (256 ^ size) (length numbers) c.args.stride numbers in
    let long = length-map c.args.row.now (sample_number size g.T.Sample.bits) in
    let i = c.loop-at.invariant in
    let last : c.loop-at.at ≡ length numbers =
    omega (arith, long, i.within, c.loop-at-test.false) in
    i.same ∙ ap (writer_after c.args.self.now) (ap (λ n. bytes_of size F n) last
    ∙ sym (row_bytes size (256 ^ size) c.args.stride numbers c.requires.stride.0 (omega (arith, c.requires.stride.1, long))))
