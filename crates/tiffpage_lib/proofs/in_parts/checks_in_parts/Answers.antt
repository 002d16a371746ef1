use Rattle.std.proofs.Common.{Ok, Err, Result, refl, inl, arith}
use Rattle.tiff_base.specs.declared.error.TiffError.{TiffError}
use Rattle.tiff_base.specs.declared.error.TiffError.TheVariants.{OutOfMemory}
use Rattle.tiff_base.specs.Answers.{AnswersWithoutSource}
use Rattle.tiff_pages.specs.declared.check.PageCheck.{PageCheck}
use Rattle.tiff_pages.specs.OfFile.{check_of, list_of}
use Rattle.tiff_pages.specs.Pages.{pages_in}
use Rattle.tiffpage_lib.specs.lemmas.Memory.{memory_out}
use Rattle.tiffpage_lib.specs.Parts.{Saw}
use Rattle.tiffpage_lib.proofs.InParts.{all_so_far, check_refused, one_so_far, pages_refused, pushed, saw_answer, saw_both, saw_if, saw_nothing, sees_refused}
use Rattle.tiffpage_lib.proofs.in_parts.checks_in_parts.Goals as goal
use Rattle.tiffpage_lib.proofs.in_parts.checks_in_parts.Goals.{In_ok-check}

pub returns-in_err-pages : goal.returns-in_err-pages
returns-in_err-pages g c =
    let file = g.S.SeenFile.bytes in
    sees_refused g.F.Files.reads_part c.args.name c.args.len file c.from_residual.result
    (λ answer. AnswersWithoutSource pages_in answer (list_of file)) _ c.args.files.now c.args.files.now c.answer_by_parts.new.files c.in_err-pages.field-0.0
    (pages_refused c.args.limits.now file) (saw_nothing g.F.Files.reads_part c.args.name c.args.len file c.args.files.now) c.in_err-pages.ensures c.from_residual.ensures.1

pub returns-in_err-check : goal.returns-in_err-check
returns-in_err-check g c =
    let file = g.S.SeenFile.bytes in
    let offset = c.page-item.result.place.0 in
    sees_refused g.F.Files.reads_part c.args.name c.args.len file c.from_residual-in_err-check.result
    (λ answer. AnswersWithoutSource (λ (check : PageCheck). check) answer (check_of file c.args.limits.now offset)) _ c.args.files.now c.loop-page.files
    c.answer_by_parts-in-loop-page.new.files c.in_err-check.field-0.0
    (check_refused c.args.limits.now file offset) c.loop-page.invariant c.in_err-check.ensures
    c.from_residual-in_err-check.ensures.1

-- What was seen of the file before a page, and of the check of the page.
seen : (g : _) (c : In_ok-check g) (before : Type 0)
    → Saw g.F.Files.reads_part c.args.name.now c.args.len g.S.SeenFile.bytes before c.args.files.now c.loop-page.files
    → Saw g.F.Files.reads_part c.args.name.now c.args.len g.S.SeenFile.bytes (before × AnswersWithoutSource (λ (check : PageCheck). check) (Ok c.in_ok-check.check) (check_of g.S.SeenFile.bytes c.args.limits.now c.page-item.result.place.0)) c.args.files.now c.answer_by_parts-in-loop-page.new.files
seen g c before so_far =
    let file = g.S.SeenFile.bytes in
    let may : Result PageCheck TiffError → Type 0 =
    λ answer. AnswersWithoutSource (λ (check : PageCheck). check) answer
    (check_of file c.args.limits.now c.page-item.result.place.0) in
    let last = c.answer_by_parts-in-loop-page.new.files in
    saw_both g.F.Files.reads_part c.args.name c.args.len file c.args.files.now c.loop-page.files last so_far
    (saw_answer g.F.Files.reads_part c.args.name c.args.len file may c.loop-page.files last c.in_ok-check.check c.in_ok-check.ensures)

pub returns-then-is_err : goal.returns-then-is_err
returns-then-is_err g c =
    let file = g.S.SeenFile.bytes in
    let last = c.answer_by_parts-in-loop-page.new.files in
    let both = seen g (goal.at.returns-then-is_err g c).In_ok-check _ c.loop-page.invariant in
    inl (Err OutOfMemory, saw_if g.F.Files.reads_part c.args.name c.args.len file c.args.files.now last (λ h. memory_out) both, refl)

pub loop-page-preserved : goal.loop-page-preserved
loop-page-preserved g c =
    let file = g.S.SeenFile.bytes in
    let last = c.answer_by_parts-in-loop-page.new.files in
    let both = seen g (goal.at.loop-page-preserved g c).In_ok-check _ c.loop-page.invariant in
    saw_if g.F.Files.reads_part c.args.name c.args.len file c.args.files.now last
    (one_so_far c.args.limits.now file c.deref-page-items.result.now _ c.loop-page.page-index c.page-item.result c.in_ok-check.check c.loop-page.checks.items c.push.new.self.items
    c.loop-page-test.true c.page-item.is (pushed c.push.result c.is_err.result c.loop-page.checks.items c.push.new.self.items c.in_ok-check.check c.push.ensures.items c.is_err.ensures.value c.if-is_err.false))
    both

pub returns : goal.returns
returns g c =
    let file = g.S.SeenFile.bytes in
    inl (
      Ok (record { pages = c.loop-page.checks; end = _ }),
      saw_if g.F.Files.reads_part c.args.name c.args.len file c.args.files.now c.loop-page.files
          (all_so_far c.args.limits.now file c.deref-page-items.result.now _ c.loop-page.page-index c.loop-page.checks.items
          (omega (arith, c.loop-page-test.false, c.loop-page.auto.page-index-end))) c.loop-page.invariant,
      refl,
    )
