use Rattle.std.proofs.Common.{◌||◌, ◌≡◌, ◌∙◌, ◌*◌, ◌/◌, ℕ, length, subst, sym, ap, inr, arith}
use Rattle.std.proofs.Math.Bool.{or-true}
use Rattle.tiff_page.specs.PageView as view
use Rattle.tiff_page.specs.Pixels.{is_byte_plane, joined_number}
use Rattle.tiff_page.specs.Row.{IsSize, RowReplaced}
use Rattle.tiff_page.specs.lemmas.OutputRow.{joined_numbers, stored_count, stored_whole, no_byte_plane, undone_numbers}
use Rattle.tiff_page.specs.lemmas.Rows.{some_size}
use Rattle.tiff_page.specs.OutputRow.{needs_swap}
use Rattle.tiff_page.proofs.output_row.undo_whole.Goals as goal

pub returns-in-FloatingPoint-clause-numbers : goal.returns-in-FloatingPoint-clause-numbers
returns-in-FloatingPoint-clause-numbers c =
    let b : RowReplaced (c.args.page.now.depth / 8) (joined_number (c.args.page.now.depth / 8) c.from-in-FloatingPoint.result (length c.args.row.now / (c.args.page.now.depth / 8)) c.args.row.now)
    c.args.row.now c.undo_float_predictor.new.row =
    subst (λ (n : ℕ). RowReplaced n (joined_number n c.from-in-FloatingPoint.result (length c.args.row.now / n) c.args.row.now) c.args.row.now c.undo_float_predictor.new.row) (c.from.ensures) c.undo_float_predictor.ensures in
    joined_numbers c.args.order (view.page c.args.page.now) c.args.row.now c.undo_float_predictor.new.row c.in-FloatingPoint.is
    (stored_count (view.page c.args.page.now) (length c.args.row.now) c.requires.size c.requires.deep c.requires.row)
    (subst (λ (n : ℕ). RowReplaced (c.args.page.now.depth / 8) (joined_number (c.args.page.now.depth / 8) n (length c.args.row.now / (c.args.page.now.depth / 8)) c.args.row.now)
    c.args.row.now c.undo_float_predictor.new.row) (c.from-in-FloatingPoint.ensures ∙ c.stored_samples-stored.ensures.count) b)

pub undo_float_predictor-requires : goal.undo_float_predictor-requires
undo_float_predictor-requires c =
    let e : c.from.result ≡ c.args.page.now.depth / 8 = c.from.ensures in
    record {
      size = subst IsSize (sym e) c.requires.size;
      stored = omega arith;
      whole = subst (λ (n : ℕ). length c.args.row.now / n * n ≡ length c.args.row.now) (sym e)
          (stored_whole (view.page c.args.page.now) (length c.args.row.now) c.requires.size c.requires.deep c.requires.row);
      room =
          c.requires.room (ap (λ p. is_byte_plane p || needs_swap c.args.order c.args.page.now.depth) c.in-FloatingPoint.is);
    }

pub turn_whole-requires : goal.turn_whole-requires
turn_whole-requires c = record {
  size = c.requires.size;
  whole =
      stored_whole (view.page c.args.page.now) (length c.args.row.now) c.requires.size c.requires.deep c.requires.row;
  room =
      λ t. c.requires.room (ap (λ b. is_byte_plane c.args.page.now.predictor || b) t
      ∙ or-true (is_byte_plane c.args.page.now.predictor));
}

pub undo_differences-requires : goal.undo_differences-requires
undo_differences-requires c = record {
  sizes = inr c.requires.size;
  deep = inr c.requires.deep;
  in_place = no_byte_plane c.args.page.now.predictor c.in_default.not-FloatingPoint;
}

pub returns-in_default-clause-numbers : goal.returns-in_default-clause-numbers
returns-in_default-clause-numbers c =
    undone_numbers c.args.order (view.page c.args.page.now) c.args.row.now c.turn_whole.new.row c.undo_differences.new.row
    (no_byte_plane c.args.page.now.predictor c.in_default.not-FloatingPoint)
    (omega arith) c.turn_whole.ensures (c.undo_differences.ensures.numbers (omega (arith, some_size (c.args.page.now.depth / 8) c.requires.size)))
