use Rattle.std.proofs.Common.{length, ap, ◌∙◌, arith, lit<}
use Rattle.std.proofs.lemmas.Iterator.Consumers.{YieldsList-end, YieldsList-turn}
use Rattle.std.proofs.lemmas.Iterator.Splits.{YieldsList-from_str_split}
use Rattle.std.proofs.lemmas.List.{length_push}
use Rattle.std.proofs.lemmas.Result.{err_from_is_err_and}
use Rattle.std.specs.List.{slice_split}
use Rattle.std.specs.Prelude.{◌==◌}
use Rattle.tiff_base.specs.Field.{DirectoryRecord}
use Rattle.tiff_script.specs.Line.{after_all, space}
use Rattle.tiff_script.specs.Values.{fields, no_fields, with_field}
use Rattle.tiff_script.proofs.Folds.{finished, passed_on, stepped, stopped, words_split}
use Rattle.tiff_script.proofs.values.directory_of.Goals as goal

pub loop-word-preserved : goal.loop-word-preserved
loop-word-preserved c =
    let t =
    YieldsList-turn (YieldsList-from_str_split {s = c.into_iter-word-iterator.result} 32 c.args.words.now (lit< tt) (cc) (cc) (cc)) c.loop-word.yielded _ c.loop-word.yielded_by _ _ c.in-Some.word c.in-Some.is c.next.ensures.steps in
    rw (length_push c.loop-word.yielded c.in-Some.word) (stepped with_field _ _ _ _ _ _ t c.loop-word.invariant c.in_ok-set_field.ensures)

pub returns-in_err-set_field : goal.returns-in_err-set_field
unfolding fields
returns-in_err-set_field c =
    let t =
    YieldsList-turn (YieldsList-from_str_split {s = c.into_iter-word-iterator.result} 32 c.args.words.now (lit< tt) (cc) (cc) (cc)) c.loop-word.yielded _ c.loop-word.yielded_by _ _ c.in-Some.word c.in-Some.is c.next.ensures.steps in
    let split = words_split c.args.words.now cc in
    let p = err_from_is_err_and c.from_residual.result c.from_residual.ensures.1 in
    rw (p.1, p.2) (passed_on {A = Unit {0}} {B = DirectoryRecord} {C = DirectoryRecord} {D = DirectoryRecord} (λ _. c.set_field.new.directory) (λ d. d) (with_field c.loop-word.directory c.in-Some.word.now) (fields c.args.words.now) _ c.in_err-set_field.ensures (λ none. ap (λ ws. after_all with_field no_fields ws) split ∙ stopped with_field _ _ _ _ _ t c.loop-word.invariant none))

pub returns : goal.returns
unfolding fields
returns c =
    let e =
    YieldsList-end (YieldsList-from_str_split {s = c.into_iter-word-iterator.result} 32 c.args.words.now (lit< tt) (cc) (cc) (cc)) c.loop-word.yielded _ c.loop-word.yielded_by _ _ c.in-None.is c.next.ensures.steps in
    let split = words_split c.args.words.now cc in
    ap (λ ws. after_all with_field no_fields ws) split
    ∙ finished with_field c.loop-word.directory (slice_split (λ b. b == space) c.args.words.now)
    (length c.loop-word.yielded) _ (omega (arith, e.1)) c.loop-word.invariant
