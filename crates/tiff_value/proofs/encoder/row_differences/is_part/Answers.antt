use Rattle.std.proofs.Common.{◌^◌, ◌<◌, ◌∙◌, ℕ, Bool, MatchBool, inl, inr, subst, sym, arith}
use Rattle.std.proofs.lemmas.Bool.Decides.{eqb_tells}
use Rattle.tiff_value.specs.Differences.{IsPart}
use Rattle.tiff_value.proofs.encoder.row_differences.is_part.Goals as goal

pub returns-then-end-at : goal.returns-then-end-at
returns-then-end-at c = λ p. omega (arith, c.then-end-at.either, p.order, p.within)

pub returns-in_default : goal.returns-in_default
returns-in_default c =
    λ p. c.in_default.ensures (subst (λ (n : ℕ). n < 2 ^ 64) p.fills c.ranges.room.fits)

pub returns : goal.returns
returns c =
    let P = IsPart c.args.long c.args.at c.args.end c.args.width c.args.room in
    elim (eqb_tells c.in-Some.bytes c.args.room) [
      | inl h ↦ subst (λ (b : Bool). MatchBool b P (P → ⊥)) (sym h.0)
          (record { order = c.if-end-at.false; within = c.if-long-end.false; fills = sym h.1 ∙ c.in-Some.ensures.1 })
      | inr h ↦ subst (λ (b : Bool). MatchBool b P (P
          → ⊥)) (sym h.0) (λ (p : P). h.1 (c.in-Some.ensures.1 ∙ sym p.fills))
    ]
