use Rattle.std.proofs.Common.{[], ap}
use Rattle.std.specs.Prelude.{Vec}
use Rattle.std.specs.declared.alloc.Global.{Global}
use Rattle.tiffpage_lib.specs.declared.parts.Part.{Part}
use Rattle.tiffpage_lib.specs.Parts.{pieces}
use Rattle.tiffpage_lib.proofs.Parted.{count_within, fetches, order_after, out_of_memory, pieces_after}
use Rattle.tiffpage_lib.proofs.parts.Parts.fetch.Goals as goal

pub returns-then-is_err-clause-refused : goal.returns-then-is_err-clause-refused
returns-then-is_err-clause-refused g c =
    out_of_memory g.F.Files.reads_part c.args.name 0 [] c.args.files.now c.read_part.new.files c.in_ok-part.part c.args.wanted.offset c.size_at-size.result c.in_ok-part.ensures.part

pub returns-clause-fetched : goal.returns-clause-fetched
returns-clause-fetched g c =
    let put =
    pieces_after c.insert.result c.is_err.result c.args.self.now.list.items c.insert.new.self.items c.note.new.self.list.items c.count_until-index.result c.in_ok-part.part
    (ap (λ (v : Vec Part Global). v.items) c.note.ensures.list) c.insert.ensures.items c.is_err.ensures.value c.if-is_err.false in
    fetches g.F.Files.reads_part c.args.name 0 [] (pieces c.args.self.now.list.items)
    (pieces c.note.new.self.list.items) c.args.files.now c.read_part.new.files c.in_ok-part.part
    c.count_until-index.result c.args.wanted.offset c.size_at-size.result put
    (count_within c.deref.result.now c.args.self.now.list.items c.count_until-index.result c.deref.ensures.value c.count_until-index.ensures.within) c.size_at-size.ensures.some
    c.in_ok-part.ensures.part

pub returns-clause-order : goal.returns-clause-order
returns-clause-order g c =
    let put =
    pieces_after c.insert.result c.is_err.result c.args.self.now.list.items c.insert.new.self.items c.note.new.self.list.items c.count_until-index.result c.in_ok-part.part
    (ap (λ (v : Vec Part Global). v.items) c.note.ensures.list) c.insert.ensures.items c.is_err.ensures.value c.if-is_err.false in
    let order =
    order_after c.args.self.now.len c.args.self.now.list.items c.deref.result.now
    (pieces c.note.new.self.list.items) c.count_until-index.result c.size_at-size.result
    c.in_ok-part.part c.args.wanted c.deref.ensures.value put c.requires.order c.requires.wanted c.count_until-index.ensures.front c.size_at-size.ensures.before
    c.size_at-size.ensures.fits c.in_ok-part.ensures.part.0 c.in_ok-part.ensures.part.1 in
    rw c.note.ensures.len order
