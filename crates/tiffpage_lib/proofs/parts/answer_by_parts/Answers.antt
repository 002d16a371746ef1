use Rattle.std.proofs.Common.{◌≡◌, ◌+◌, ◌≤◌, length, arith, ap, ◌∙◌}
use Rattle.tiffpage_lib.specs.Parts.{Fetches, pieces, total}
use Rattle.tiffpage_lib.proofs.Parted.{saw_more, sees_fault, total_put, total_within}
use Rattle.tiffpage_lib.proofs.parts.answer_by_parts.Goals as goal

pub asking-smaller : goal.asking-smaller
asking-smaller g c =
    let before = pieces c.asking.parts.list.items in
    let after = pieces c.fetch.new.self.list.items in
    let f : Fetches g.F.Files.reads_part c.args.name.now before c.asking.files after c.fetch.new.files = c.in_ok-fetch-in-Err.ensures.fetched in
    let all : total after ≡ length f.part.1 + total before =
    ap total f.put ∙ total_put before f.index f.part in
    let within : 0 + total after ≤ c.fetch.new.self.len =
    total_within c.fetch.new.self.len 0 after c.in_ok-fetch-in-Err.ensures.order in
    omega (arith, f.some, all, within, c.in_ok-fetch-in-Err.ensures.len, c.asking.invariant.0)

pub asking-preserved : goal.asking-preserved
asking-preserved g c =
    let len = c.in_ok-fetch-in-Err.ensures.len ∙ c.asking.invariant.0 in (
      len,
      rw len at c.in_ok-fetch-in-Err.ensures.order,
      saw_more g.F.Files.reads_part c.args.name c.args.len g.S.SeenFile.bytes
          (pieces c.asking.parts.list.items) (pieces c.fetch.new.self.list.items) c.args.files.now c.asking.files
          c.fetch.new.files c.asking.invariant.2 c.in_ok-fetch-in-Err.ensures.fetched,
    )

pub returns-in_err-fetch-in-Err : goal.returns-in_err-fetch-in-Err
returns-in_err-fetch-in-Err g c =
    sees_fault g.F.Files.reads_part c.args.name c.args.len g.S.SeenFile.bytes
    (g.Q.Question.may c.args.question.now g.S.SeenFile.bytes) _ c.args.files.now c.asking.files c.fetch.new.files
    c.in_err-fetch-in-Err.field-0.0 c.asking.invariant.2 c.in_err-fetch-in-Err.ensures.refused c.from_residual-in_err-fetch-in-Err.ensures.1
    (g.met.Q.Question.memory c.args.question.now g.S.SeenFile.bytes)
