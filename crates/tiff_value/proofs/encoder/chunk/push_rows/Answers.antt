use Rattle.std.proofs.Common.{ℕ, List, ◌≡◌, ◌^◌, ◌+◌, ◌≤◌, ◌++◌, length, map, ap, ◌∙◌, arith}
use Rattle.std.specs.List.{flat_map}
use Rattle.std.proofs.Math.Nat.{add-mod_right}
use Rattle.std.proofs.lemmas.List.{length-map}
use Rattle.tiff_base.specs.Number.{le}
use Rattle.tiff_base.specs.Types.{type_size}
use Rattle.tiff_value.specs.ColorType.{sample_number}
use Rattle.tiff_value.specs.Differences.{predicted_row}
use Rattle.tiff_value.proofs.Chunk.{row_fits, row_seen, rows_next, rows_end}
use Rattle.tiff_value.proofs.encoder.chunk.push_rows.Goals as goal

pub loop-at-preserved : goal.loop-at-preserved
loop-at-preserved g c =
    let fits : c.loop-at.at + c.args.row ≤ length c.args.samples.now =
    row_fits c.loop-at.at c.args.row (length c.args.samples.now) c.loop-at-test.true c.loop-at.invariant.even c.requires.whole in
    let size : ℕ = type_size g.T.TiffValue.value_type in
    let num = sample_number size g.T.Sample.bits in
    record {
      within = fits;
      even = add-mod_right c.loop-at.at c.args.row ∙ c.loop-at.invariant.even;
      made =
          rows_next (256 ^ size) c.args.row c.args.stride (map num c.args.samples.now) size c.loop-at.at c.args.out.now.items c.loop-at.out.items c.push_row.new.out.items
          c.requires.stride.0 c.requires.stride.1 (omega (arith, fits, length-map c.args.samples.now num)) c.loop-at.invariant.even c.loop-at.invariant.made
          (c.in_ok-push_row.ensures
          ∙ ap (λ (ns : List ℕ). c.loop-at.out.items ++ flat_map (le size) (predicted_row (256 ^ size) c.args.stride ns)) (row_seen num c.loop-at.at c.args.row c.args.samples.now));
    }

pub returns : goal.returns
returns g c =
    let size : ℕ = type_size g.T.TiffValue.value_type in
    let num = sample_number size g.T.Sample.bits in
    let last : c.loop-at.at ≡ length (map num c.args.samples.now) =
    omega (arith, c.loop-at.invariant.within, c.loop-at-test.false, length-map c.args.samples.now num) in
    rows_end (256 ^ size) c.args.row c.args.stride (map num c.args.samples.now) size c.loop-at.at c.args.out.now.items c.loop-at.out.items last c.loop-at.invariant.made
