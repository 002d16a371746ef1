use Rattle.std.proofs.Common.{rules, ◌≡◌, ◌+◌, ◌*◌, ◌++◌, [], Ok, Err, IfErr, List, Result, ℕ, ap, sym, subst, ◌∙◌, arith}
use Rattle.std.proofs.lemmas.Grind.{common_steps}
use Rattle.std.proofs.lemmas.Result.{err_from_is_err_and}
use Rattle.std.specs.Prelude.{IsErrAnd}
use Rattle.std.specs.List.{cons_option}
use Rattle.tiff_base.specs.Directory.{entry_len, entry_of, entry_at, entries_from}
use Rattle.tiff_base.specs.Field.{Field}
use Rattle.tiff_base.specs.Answers.{IsCause}
use Rattle.tiff_base.specs.declared.error.TiffError.{TiffError}
use Rattle.tiff_base.specs.declared.error.TiffError.TheVariants.{OutOfMemory}
use Rattle.tiff_base.specs.lemmas.Causes.{cause_along}
use Rattle.tiff_base.specs.lemmas.Contents.{same_bytes}
use Rattle.tiff_ifd.specs.lemmas.Entries.{read_there, entries_more}
use Rattle.tiff_ifd.proofs.decode.read_entries.Goals as goal

pub loop-i-preserved : goal.loop-i-preserved
loop-i-preserved g c =
    let i = c.loop-i.invariant in
    let bytes = (g.R.Source.contents c.args.source.now).bytes in
    let there : entry_at c.args.kind c.args.order bytes (c.args.table.first
    + entry_len c.args.kind * c.loop-i.i) ≡ Ok c.in_ok-entry.entry =
    subst (λ (bs : List ℕ). entry_at c.args.kind c.args.order bs (c.args.table.first
    + entry_len c.args.kind * c.loop-i.i) ≡ Ok c.in_ok-entry.entry) (same_bytes i.same)
    (subst (λ (at : ℕ). entry_at c.args.kind c.args.order (g.R.Source.contents c.loop-i.source).bytes at ≡ Ok c.in_ok-entry.entry) i.here c.in_ok-entry.ensures.answer) in
    let this =
    read_there bytes (c.args.table.first + entry_len c.args.kind * c.loop-i.i)
    (entry_len c.args.kind) (entry_of c.args.kind c.args.order) c.in_ok-entry.entry there in
    record {
      same = c.read_entry_at.ensures.kept.contents ∙ i.same;
      failures = omega (arith, i.failures, c.in_ok-entry.ensures.kept.swallowed);
      here = search rules;
      so_far = c.in_ok-add.ensures
          ∙ ap (λ (es : List (ℕ × Field)). es ++ cons_option c.in_ok-entry.entry [])
          {y = entries_from c.args.kind c.args.order bytes c.args.table.first c.loop-i.i} i.so_far
          ∙ sym (entries_more c.args.kind c.args.order bytes c.args.table.first c.loop-i.i c.in_ok-entry.entry this);
    }

pub returns-in_err-entry-clause-cut : goal.returns-in_err-entry-clause-cut
returns-in_err-entry-clause-cut g c =
    let answered = err_from_is_err_and c.from_residual.result c.from_residual.ensures.1 in
    let i = c.loop-i.invariant in
    rw (answered.1, answered.2) (cause_along c.in_err-entry.field-0.0 (λ w. absurd w)
    (λ f. omega (arith, f, i.failures))
    (λ h. grind (arith, common_steps, h, same_bytes i.same, i.here, c.loop-i-test.true))
    c.in_err-entry.ensures.answer)

-- a list that can't grow, for want of memory
no_room : {X : Type 0} (r : Result X TiffError) (failed : Type 0) (given : TiffError → Type 0)
    → IsErrAnd r (λ e. e ≡ OutOfMemory) → IfErr r (λ e. IsCause (Unit {0}) failed e (given e))
no_room (Ok x) failed given q = tt
no_room (Err e) failed given q =
    let here : IsCause (Unit {0}) failed OutOfMemory (given OutOfMemory) =
    record { memory = λ is. tt; device = λ is. absurd (cc); other = λ is. absurd (cc) } in
    subst (λ f. IsCause (Unit {0}) failed f (given f)) (sym q) here

pub returns-in_err-add-clause-cut : goal.returns-in_err-add-clause-cut
returns-in_err-add-clause-cut g c =
    no_room c.from_residual-in_err-add.result _ _ c.from_residual-in_err-add.ensures.1
