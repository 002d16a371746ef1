use Rattle.std.proofs.Common.{ap, ◌∙◌}
use Rattle.tiff_base.specs.declared.windows.Windows.{Windows}
use Rattle.tiffpage_lib.specs.Parts.{pieces}
use Rattle.tiffpage_lib.proofs.Parted.{never_none, told_of}
use Rattle.tiffpage_lib.proofs.parts.ask.Goals as goal

pub unreachable-requires : goal.unreachable-requires
unreachable-requires g c =
    never_none c.args.len c.in-Ok.windows.items c.deref.result.now
    (pieces c.args.parts.now) c.deref.ensures.value c.in-Ok.ensures c.requires (c.in-None.ensures).order

pub returns : goal.returns
returns g c =
    let o = (c.in-Some.ensures).order.0 in
    told_of (λ answer. g.Q.Question.may c.args.question.now g.S.SeenFile.bytes answer) g.S.SeenFile.bytes c.args.len (pieces c.args.parts.now) c.in-Ok.windows.items c.in-Some.seen.seen
    c.ask_seen.result (ap (λ (s : Windows). s.len) o) (ap (λ (s : Windows). s.windows.now) o
    ∙ c.deref.ensures.value) c.in-Ok.ensures c.ask_seen.ensures
