use Rattle.std.proofs.Common.{◌<◌, get_or, string_bytes, subst, arith}
use Rattle.std.specs.Vec.Iter.{into_iter_items}
use Rattle.tiff.specs.lemmas.Causes.{cause_along}
use Rattle.tiff_decode.specs.declared.script.Call.TheVariants as call
use Rattle.tiff_decode.specs.declared.script.Reply.{Reply}
use Rattle.tiff_decode.specs.Step.{Step}
use Rattle.tiff.specs.Tags.{tag_of}
use Rattle.tiffpage_lib.proofs.Found.{all_keep, between_all, between_next, between_some, next_found}
use Rattle.tiffpage_lib.proofs.Lines.{lines_cut, lines_more, lines_none}
use Rattle.tiffpage_lib.proofs.listing.list_tags.Goals as goal

pub loop-number-init : goal.loop-number-init
loop-number-init g c = record {
  between =
      between_all c.args.decoder.now c.find_all.new.decoder c.args.numbers.now c.in_ok-find_all.field-0.items (into_iter_items c.into_iter-replies.result) c.into_iter-replies.ensures.rest c.in_ok-find_all.ensures;
  lines = grind (arith, lines_none);
}

pub next_of-requires : goal.next_of-requires
next_of-requires g c =
    between_some c.args.decoder.now c.find_all.new.decoder c.args.numbers.now c.loop-number.number-index (into_iter_items c.loop-number.replies) c.loop-number-test.true c.loop-number.invariant.between

pub field_found-found-requires : goal.field_found-found-requires
field_found-found-requires g c =
    let n =
    between_next c.args.decoder.now c.find_all.new.decoder c.args.numbers.now c.loop-number.number-index 0 (into_iter_items c.loop-number.replies) (into_iter_items c.next_of.new.rest) c.next_of.result c.loop-number-test.true c.loop-number.invariant.between c.next_of.ensures in
    next_found c.args.decoder.now c.find_all.new.decoder _ _ c.next_of.result
    (into_iter_items c.next_of.new.rest) n

pub returns-in-Err-clause-answer : goal.returns-in-Err-clause-answer
returns-in-Err-clause-answer g c =
    let n =
    between_next c.args.decoder.now c.find_all.new.decoder c.args.numbers.now c.loop-number.number-index 0 (into_iter_items c.loop-number.replies) (into_iter_items c.next_of.new.rest) c.next_of.result c.loop-number-test.true c.loop-number.invariant.between c.next_of.ensures in
    let P : Reply → Type 0 =
    λ r. Step n.mid (call.FindTagBuf (tag_of (get_or c.args.numbers.now c.loop-number.number-index 0))) r n.next in
    let told = c.in-Err.ensures n.mid n.next (subst P c.field_found-found.ensures n.step) in
    lines_cut n.mid c.args.decoder.now c.args.numbers.now (string_bytes c.loop-number.text) c.loop-number.number-index 0 c.find_all.new.decoder.failures c.in-Err.fault
    c.loop-number-test.true n.keeps.kept n.keeps.failures c.loop-number.invariant.lines
    (cause_along c.in-Err.fault (λ w. w) (λ (l : n.mid.failures < n.next.failures). omega (arith, l, n.grows)) (λ h. h) told)

pub returns-in-Err-clause-kept : goal.returns-in-Err-clause-kept
returns-in-Err-clause-kept g c =
    (all_keep c.args.decoder.now c.find_all.new.decoder c.args.numbers.now c.in_ok-find_all.field-0.items c.in_ok-find_all.ensures).kept

pub returns-in-Err-clause-failures : goal.returns-in-Err-clause-failures
returns-in-Err-clause-failures g c =
    (all_keep c.args.decoder.now c.find_all.new.decoder c.args.numbers.now c.in_ok-find_all.field-0.items c.in_ok-find_all.ensures).failures

pub loop-number-preserved : goal.loop-number-preserved
loop-number-preserved g c =
    let n =
    between_next c.args.decoder.now c.find_all.new.decoder c.args.numbers.now c.loop-number.number-index 0 (into_iter_items c.loop-number.replies) (into_iter_items c.next_of.new.rest) c.next_of.result c.loop-number-test.true c.loop-number.invariant.between c.next_of.ensures in
    let P : Reply → Type 0 =
    λ r. Step n.mid (call.FindTagBuf (tag_of (get_or c.args.numbers.now c.loop-number.number-index 0))) r n.next in
    record {
      between = n.left;
      lines =
          lines_more n.mid c.args.decoder.now c.args.numbers.now (string_bytes c.loop-number.text)
          (string_bytes c.push_found.new.text) c.loop-number.number-index 0
          c.loop-number-test.true n.keeps.kept c.loop-number.invariant.lines
          (c.in-Ok.ensures n.mid n.next (subst P c.field_found-found.ensures n.step));
    }
