use Rattle.std.proofs.Common.{◌≡◌, arith, refl, ◌-◌}
use Rattle.tiff_page.specs.Row.{AddsNumber}
use Rattle.tiff_page.specs.lemmas.Rows.{first_summed, summed_more, rest_more, behind_more}
use Rattle.tiff_page.proofs.predictors.sum_numbers.Goals.{in-1, in-2, in-4, in_default}
use Rattle.tiff_page.proofs.predictors.sum_numbers.Goals as goal

pub loop-k-init : goal.loop-k-init
loop-k-init c = record {
  done =
      λ j h. first_summed c.args.size c.args.stored c.args.row.now j c.requires.size
      (λ i. omega (arith, c.type_inv.row i)) h;
  rest = λ j h. refl;
  behind = λ i h. refl;
}

pub loop-k-preserved : goal.loop-k-preserved
loop-k-preserved c =
    let l = c.loop-k in
    let added : AddsNumber c.args.size l.row (l.k - c.args.stored) l.k c.match-size.row =
    elim c.match-size.branch [
      | in-1 w ↦ rw (w.in-1.is, w.row-is) w.add_byte.ensures
      | in-2 w ↦ rw (w.in-2.is, w.row-is) w.add_u16.ensures
      | in-4 w ↦ rw (w.in-4.is, w.row-is) w.add_u32.ensures
      | in_default w ↦ let eight : c.args.size ≡ 8 =
          grind arith in rw (eight, w.row-is) w.add_u64.ensures
    ] in
    record {
      done =
          summed_more c.args.size c.args.stored c.args.row.now l.row _ l.k c.requires.stored l.auto.k added l.invariant.done l.invariant.rest;
      rest = rest_more c.args.size c.args.stored c.args.row.now l.row _ l.k added l.invariant.rest;
      behind =
          behind_more c.args.size c.args.stored _ c.args.row.now l.row _ l.k added c.loop-k-test.true l.invariant.behind;
    }
