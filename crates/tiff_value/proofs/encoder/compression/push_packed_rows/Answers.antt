use Rattle.std.proofs.Common.{ℕ, List, ◌<◌, ◌%◌, length, ap, ◌∙◌, subst}
use Rattle.std.specs.Slice.Iter.{chunks_exact_rest, chunks_exact_size}
use Rattle.tiff_value.specs.lemmas.PackedRows.{no_rows, row_next, all_rows, none_left, whole_left}
use Rattle.tiff_value.proofs.encoder.compression.push_packed_rows.Goals as goal

pub loop-one-init : goal.loop-one-init
loop-one-init c =
    let begins =
    ap chunks_exact_rest c.into_iter-one-iterator.ensures.into_iter_gives
    ∙ c.chunks_exact-one-items.ensures.rest in
    record {
      size =
          ap chunks_exact_size c.into_iter-one-iterator.ensures.into_iter_gives
          ∙ c.chunks_exact-one-items.ensures.size;
      whole = ap (λ (xs : List ℕ). length xs % c.args.row) begins ∙ c.requires.whole;
      packed =
          rw begins (no_rows c.args.row c.args.bytes.now c.args.out.now.items c.requires.empty);
    }

pub loop-one-preserved : goal.loop-one-preserved
loop-one-preserved c =
    let h = c.loop-one.invariant in
    let step = c.in-Some.ensures.steps.1 in
    let long = step.1 ∙ h.size in
    record {
      size = c.in-Some.ensures.steps.0 ∙ h.size;
      whole =
          whole_left c.args.row (chunks_exact_rest c.loop-one.one-iterator) c.in-Some.one.now
          (chunks_exact_rest c.next.new.self) step.0 long h.whole;
      packed =
          row_next c.args.row c.args.bytes.now (chunks_exact_rest c.loop-one.one-iterator) c.loop-one.out.items c.in-Some.one.now (chunks_exact_rest c.next.new.self)
          c.push_packed.new.out.items h.packed step.0 long c.in_ok-push_packed.ensures;
    }

pub returns : goal.returns
returns c =
    let h = c.loop-one.invariant in
    let rest = chunks_exact_rest c.loop-one.one-iterator in
    let few = subst (λ (n : ℕ). length rest < n) h.size c.in-None.ensures.steps.1.0 in
    all_rows c.args.row c.args.bytes.now rest c.loop-one.out.items h.packed
    (none_left c.args.row rest h.whole few)
