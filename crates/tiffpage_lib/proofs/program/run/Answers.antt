use Rattle.std.proofs.Common.{refl, sym, inl, inr, ◌∙◌}
use Rattle.tiffpage_lib.proofs.Refused.{on_ok, runs_refused}
use Rattle.tiffpage_lib.proofs.program.run.Goals as goal

pub returns-then-is_ok-clause-runs : goal.returns-then-is_ok-clause-runs
returns-then-is_ok-clause-runs g c =
    let printed =
    on_ok _ _ (sym c.is_ok.ensures.value ∙ c.if-is_ok.true) c.write_all.ensures.bytes in
    runs_refused g.O.Write.contents g.E.Write.contents g.F.Files.reads g.F.Files.writes g.F.Files.appends g.F.Files.compares g.F.Files.measures g.F.Files.reads_part g.S.SeenFile.bytes
    c.args.words.now _ _ _ _ _ (sym c.is_empty.ensures
    ∙ c.if-is_empty.false) c.in_default.ensures.none (refl, inr (refl, rw c.as_bytes.ensures.value at printed))

pub returns-else-is_ok-clause-runs : goal.returns-else-is_ok-clause-runs
returns-else-is_ok-clause-runs g c =
    runs_refused g.O.Write.contents g.E.Write.contents g.F.Files.reads g.F.Files.writes g.F.Files.appends g.F.Files.compares g.F.Files.measures g.F.Files.reads_part g.S.SeenFile.bytes
    c.args.words.now _ _ _ _ _ (sym c.is_empty.ensures
    ∙ c.if-is_empty.false) c.in_default.ensures.none (refl, inl refl)
