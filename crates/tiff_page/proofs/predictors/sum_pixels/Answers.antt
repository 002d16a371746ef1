use Rattle.std.proofs.Common.{◌≡◌, ℕ, ◌∙◌, ◌<◌, get_or, subst, ◌*◌, ◌+◌, ◌-◌, ◌/◌, ◌≤◌, length, take, drop, refl, arith}
use Rattle.std.proofs.lemmas.List.{get_or-replicate, length-take, length-drop}
use Rattle.tiff_base.specs.declared.tags.ByteOrder.TheVariants.{LittleEndian}
use Rattle.tiff_page.specs.Pixels.{summed_number}
use Rattle.tiff_page.specs.lemmas.Rows.{number_within, all_summed, carries_first, pixel_carries, pixel_done, pixel_rest}
use Rattle.tiff_page.proofs.predictors.sum_pixels.Goals as goal

pub loop-k-preserved : goal.loop-k-preserved
loop-k-preserved g c =
    let s = g.row.N in
    let w = number_within c.loop-k.k s (length c.args.row.now) c.loop-k-test.true in
    let at = c.loop-k.k * s in
    let m : length (take (at + s - at) (drop at c.loop-k.row)) ≡ s =
    omega (arith, w, c.loop-k.auto.row, length-take (at + s - at) (drop at c.loop-k.row), length-drop at c.loop-k.row) in
    let n : at + s - at ≡ s = omega arith in
    let l = c.sum_pixel.auto.pixel ∙ m in
    let room : (c.loop-k.k + 1) * s ≤ length c.loop-k.row = omega (arith, w, c.loop-k.auto.row) in
    record {
      done =
          pixel_done s c.loop-k.k _ c.args.row.now c.loop-k.row c.sum_pixel.new.pixel c.loop-k.last n l room c.sum_pixel.ensures.sums
          c.loop-k.invariant.carries c.loop-k.invariant.done c.loop-k.invariant.rest;
      rest =
          pixel_rest s c.loop-k.k _ c.args.row.now c.loop-k.row c.sum_pixel.new.pixel n l room c.loop-k.invariant.rest;
      carries =
          pixel_carries s c.loop-k.k _ c.args.row.now c.loop-k.row c.sum_pixel.new.pixel c.loop-k.last c.sum_pixel.new.last n l room c.requires.some
          c.sum_pixel.ensures.sums c.sum_pixel.ensures.held c.loop-k.invariant.carries c.loop-k.invariant.rest;
    }

pub loop-k-init : goal.loop-k-init
loop-k-init g c = record {
  done = λ i h. absurd (omega (arith, h));
  rest = λ i h. refl;
  carries =
      carries_first g.row.N c.args.row.now _ (λ i. omega (arith, c.type_inv.row i))
      (λ j h. get_or-replicate g.row.N j 0 0 h);
}

pub returns : goal.returns
returns g c =
    let s = g.row.N in
    let e : c.loop-k.k ≡ length c.args.row.now / s =
    omega (arith, c.loop-k-test.false, c.loop-k.auto.k-end) in
    all_summed s c.args.row.now c.loop-k.row c.requires.whole
    (subst (λ (m : ℕ). (i : ℕ) → i < m * s → get_or c.loop-k.row i 0
    ≡ summed_number LittleEndian 1 s c.args.row.now i) e c.loop-k.invariant.done)
    (subst (λ (m : ℕ). (i : ℕ) → m * s ≤ i → get_or c.loop-k.row i 0
    ≡ get_or c.args.row.now i 0) e c.loop-k.invariant.rest)
