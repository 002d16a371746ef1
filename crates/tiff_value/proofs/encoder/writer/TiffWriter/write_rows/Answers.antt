use Rattle.std.proofs.Common.{◌≡◌, ℕ, ◌+◌, ◌^◌, ◌≤◌, List, length, map, refl, ap, ◌∙◌, subst, arith}
use Rattle.std.proofs.Math.Nat.{add-mod_right, zero-mod}
use Rattle.std.proofs.lemmas.List.{length-map}
use Rattle.std.proofs.lemmas.Result.{err_from_is_err_and}
use Rattle.tiff_base.specs.Types.{type_size}
use Rattle.tiff_value.specs.ColorType.{sample_number}
use Rattle.tiff_value.specs.Written.{writer_after, IsCut}
use Rattle.tiff_value.proofs.Bands.{in_rows, band_next, band_cut, row_between, rows_bytes}
use Rattle.tiff_value.proofs.Chunk.{row_fits}
use Rattle.tiff_value.specs.lemmas.Put.{writer_none}
use Rattle.tiff_value.proofs.encoder.writer.TiffWriter.write_rows.Goals as goal

pub loop-at-init : goal.loop-at-init
loop-at-init g c = record {
  within = omega arith;
  even = zero-mod c.args.row;
  offset = omega (arith, c.offset-start.ensures.offset, c.offset-start.ensures.within);
  same = writer_none c.args.self.now;
  fresh = c.requires.fresh;
}

pub write_row-requires-clause-fresh : goal.write_row-requires-clause-fresh
write_row-requires-clause-fresh g c =
    ap (λ w. w.fault) c.loop-at.invariant.same ∙ c.loop-at.invariant.fresh

pub returns-in_err-write_row : goal.returns-in_err-write_row
returns-in_err-write_row g c =
    let answered = err_from_is_err_and c.from_residual.result c.from_residual.ensures.1 in
    let size = type_size g.T.TiffValue.value_type in
    let num = sample_number size g.T.Sample.bits in
    let row = c.args.row in
    let samples = c.args.samples.now in
    let at = c.loop-at.at in
    let F = in_rows size (256 ^ size) row c.args.stride num samples in
    let i = c.loop-at.invariant in
    let e = c.in_err-write_row.field-0.0 in
    let mid = c.loop-at.self in
    let new = c.write_row.new.self in
    let fits : at + row ≤ length samples =
    row_fits at row (length samples) c.loop-at-test.true i.even c.requires.whole in
    let long : length (map num samples) ≡ length samples = length-map samples num in
    let cut =
    subst (λ (xs : List ℕ). IsCut xs e mid new) (row_between size (256 ^ size) row c.args.stride num samples at c.requires.stride.0 c.requires.stride.1 fits i.even) c.in_err-write_row.ensures in
    rw (answered.1, answered.2) (subst (λ (xs : List ℕ). IsCut xs e c.args.self.now new) (rows_bytes size (256 ^ size) row c.args.stride num samples (length (map num samples)) refl)
    (band_cut size F c.args.self.now i.offset at (at + row) (length (map num samples)) mid new e (omega arith) (omega (arith, fits, long)) i.fresh i.same cut))

pub loop-at-preserved : goal.loop-at-preserved
loop-at-preserved g c =
    let size = type_size g.T.TiffValue.value_type in
    let num = sample_number size g.T.Sample.bits in
    let row = c.args.row in
    let samples = c.args.samples.now in
    let at = c.loop-at.at in
    let F = in_rows size (256 ^ size) row c.args.stride num samples in
    let i = c.loop-at.invariant in
    let fits : at + row ≤ length samples =
    row_fits at row (length samples) c.loop-at-test.true i.even c.requires.whole in
    record {
      within = fits;
      even = add-mod_right at row ∙ i.even;
      offset = i.offset;
      same =
          band_next size F c.args.self.now i.offset at (at
          + row) c.loop-at.self c.write_row.new.self (omega arith) i.same
          (c.in_ok-write_row.ensures
          ∙ ap (writer_after c.loop-at.self) (row_between size (256 ^ size) row c.args.stride num samples at c.requires.stride.0 c.requires.stride.1 fits i.even));
      fresh = i.fresh;
    }

pub returns : goal.returns
returns g c =
    let size = type_size g.T.TiffValue.value_type in
    let num = sample_number size g.T.Sample.bits in
    let samples = c.args.samples.now in
    let i = c.loop-at.invariant in
    let long : length (map num samples) ≡ length samples = length-map samples num in
    let last : c.loop-at.at ≡ length (map num samples) =
    omega (arith, long, i.within, c.loop-at-test.false) in
    i.same ∙ ap (writer_after c.args.self.now) (rows_bytes size (256 ^ size) c.args.row c.args.stride num samples c.loop-at.at last)
