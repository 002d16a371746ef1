use Rattle.std.proofs.Common.{◌≡◌, ◌∙◌, Ok, ap, sym, length, arith}
use Rattle.std.proofs.lemmas.List.{take_at}
use Rattle.tiff_ifd.specs.lemmas.Unsigned.{each_given}
use Rattle.tiff_ifd.proofs.read_numbers.unsigned_from.Goals as goal

pub returns : goal.returns
returns c =
    let all : length c.fill_by_type.new.numbers ≡ c.in_ok-all.all.len =
    omega (arith, c.fill_by_type.auto.numbers, c.deref_mut.ensures.len) in
    let count : length c.fill_by_type.new.numbers ≡ c.args.count =
    omega (arith, all, c.in_ok-all.ensures.len) in
    each_given c.args.field_type c.args.order c.args.count c.args.bytes.now c.fill_by_type.new.numbers c.requires.numbers c.requires.whole count c.fill_by_type.ensures
    ∙ ap Ok (sym (take_at c.fill_by_type.new.numbers _ c.in_ok-all.all.len all))
