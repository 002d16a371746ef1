use Rattle.std.proofs.Common.{ℕ, List, arith, sym, subst}
use Rattle.tiff_page.specs.Row.{SwapsBytes}
use Rattle.tiff_page.specs.lemmas.Rows.{bytes_turned}
use Rattle.tiff_page.proofs.predictors.to_little_endian.Goals as goal

pub returns-in-2 : goal.returns-in-2
returns-in-2 c =
    subst (λ (n : ℕ). SwapsBytes n c.args.row.now c.turn_numbers.new.out)
    (sym c.in-2.is) c.turn_numbers.ensures

pub returns-in-4 : goal.returns-in-4
returns-in-4 c =
    subst (λ (n : ℕ). SwapsBytes n c.args.row.now c.turn_numbers-in-4.new.out)
    (sym c.in-4.is) c.turn_numbers-in-4.ensures

pub returns-in-8 : goal.returns-in-8
returns-in-8 c =
    subst (λ (n : ℕ). SwapsBytes n c.args.row.now c.turn_numbers-in-8.new.out)
    (sym c.in-8.is) c.turn_numbers-in-8.ensures

pub returns-in_default : goal.returns-in_default
returns-in_default c =
    subst (λ (xs : List ℕ). SwapsBytes c.args.size c.args.row.now xs)
    (sym c.copy_from_slice.ensures.after) (bytes_turned c.args.size c.args.row.now (grind arith))
