use Rattle.std.proofs.Common.{ℕ, ◌+◌, ◌*◌, ◌≤◌, length, ap, sym, ◌∙◌, subst}
use Rattle.std.specs.Int.{w32}
use Rattle.tiff_base.specs.Number.{number}
use Rattle.tiff_base.specs.declared.tags.ByteOrder.TheVariants.{LittleEndian}
use Rattle.tiff_page.specs.Pixels.{row_number}
use Rattle.tiff_page.specs.lemmas.Rows.{each_at, one_number}
use Rattle.tiff_rewrite.proofs.numbers.number_in.Goals as goal

pub returns-in-1-clause-value : goal.returns-in-1-clause-value
returns-in-1-clause-value c =
    c.from.ensures ∙ sym (one_number c.args.row.now c.args.k)
    ∙ ap (λ (n : ℕ). row_number LittleEndian n c.args.row.now c.args.k) (sym c.in-1.is)

pub returns-in-4-clause-value : goal.returns-in-4-clause-value
returns-in-4-clause-value c =
    let within : (c.args.k + 1) * 4 ≤ length c.args.row.now =
    subst (λ (n : ℕ). (c.args.k + 1) * n ≤ length c.args.row.now) c.in-4.is c.requires.within in
    c.from-in-4.ensures ∙ c.u32_in.ensures
    ∙ sym (ap (number LittleEndian w32) (each_at 4 c.args.k c.args.row.now within))
    ∙ ap (λ (n : ℕ). row_number LittleEndian n c.args.row.now c.args.k) (sym c.in-4.is)
