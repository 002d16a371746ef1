use Rattle.std.proofs.Common.{◌≡◌, ℕ, ◌-◌, ◌<◌, ◌≤◌, List, ◌++◌, length, take, drop, replicate, map, ap, sym, ◌∙◌, arith}
use Rattle.std.proofs.lemmas.List.{length-map, length-take-le, length-drop}
use Rattle.tiff_base.specs.Types.{type_size}
use Rattle.tiff_value.specs.ColorType.{sample_number}
use Rattle.tiff_value.proofs.Bands.{put_behind, whole_part}
use Rattle.tiff_value.proofs.encoder.row_differences.push_row_differences.Goals as goal

pub returns : goal.returns
returns g c =
    let size = type_size g.T.TiffValue.value_type in
    let row = c.args.row.now in
    let numbers : List ℕ = map (sample_number size g.T.Whole.bits) row in
    let long : length numbers ≡ length row = length-map row (sample_number size g.T.Whole.bits) in
    let start = c.len-start.result in
    let old = c.args.out.now.items in
    let here : start ≡ length old = omega (arith, c.len-start.ensures, c.args.out.now.ok) in
    let end = c.in-Some.end in
    let order : start ≤ end = omega (arith, c.in-Some.ensures.1) in
    let last : c.resize.new.self.len ≡ end = c.in_ok-resize.ensures.len in
    let some : 0 < c.args.stride = omega (arith, c.if-stride-eq0.false) in
    let xs = c.deref_mut.result.now in
    let wide : length xs ≡ end = c.deref_mut.ensures.len ∙ last in
    let many : length c.put_row_part.new.out ≡ end - start =
    c.put_row_part.auto.out ∙ length-take-le (length xs - start) (drop start xs)
    (omega (arith, length-drop start xs)) ∙ ap (λ (n : ℕ). n - start) wide in
    put_behind old c.resize.new.self.items c.deref_mut.result.now c.put_row_part.new.out _ start end c.resize.new.self.len c.deref_mut.ensures.value
    (c.in_ok-resize.ensures.items ∙ ap (λ (n : ℕ). take end old
    ++ replicate {A = ℕ} (end - n) 0) (sym c.len-start.ensures)) here order last many
    (c.put_row_part.ensures ∙ whole_part size g.T.Whole.modulus c.args.stride numbers (length row) (omega (arith, long)) some (omega (arith, long, c.if-row-stride.false))) _
