use Rattle.std.proofs.Common.{Global, List, Vec, ℕ, [], length, ap, ◌∙◌, arith, lit<}
use Rattle.std.proofs.lemmas.Iterator.Consumers.{YieldsList-end, YieldsList-turn}
use Rattle.std.proofs.lemmas.Iterator.Splits.{YieldsList-from_str_split}
use Rattle.std.proofs.lemmas.List.{length_push}
use Rattle.std.proofs.lemmas.Result.{err_from_is_err_and}
use Rattle.std.specs.List.{slice_split}
use Rattle.std.specs.Prelude.{◌==◌}
use Rattle.tiff_script.specs.Line.{after_all, space}
use Rattle.tiff_script.specs.Samples.{samples, with_samples}
use Rattle.tiff_script.proofs.Folds.{finished, passed_on, stepped, stopped, words_split}
use Rattle.tiff_script.proofs.samples.SampleWords.samples_of.Goals as goal

pub loop-word-preserved : goal.loop-word-preserved
loop-word-preserved c =
    let t =
    YieldsList-turn (YieldsList-from_str_split {s = c.into_iter-word-iterator.result} 32 c.args.words.now (lit< tt) (cc) (cc) (cc)) c.loop-word.yielded _ c.loop-word.yielded_by _ _ c.in-Some.word c.in-Some.is c.next.ensures.steps in
    rw (length_push c.loop-word.yielded c.in-Some.word) (stepped (with_samples c.args.self) _ _ _ _ _ _ t c.loop-word.invariant c.in_ok-push_word.ensures)

pub returns-in_err-push_word : goal.returns-in_err-push_word
unfolding samples
returns-in_err-push_word c =
    let t =
    YieldsList-turn (YieldsList-from_str_split {s = c.into_iter-word-iterator.result} 32 c.args.words.now (lit< tt) (cc) (cc) (cc)) c.loop-word.yielded _ c.loop-word.yielded_by _ _ c.in-Some.word c.in-Some.is c.next.ensures.steps in
    let split = words_split c.args.words.now cc in
    let p = err_from_is_err_and c.from_residual.result c.from_residual.ensures.1 in
    rw (p.1, p.2) (passed_on {A = Unit {0}} {B = List ℕ} {C = Vec ℕ Global} {D = List ℕ} (λ _. c.push_word.new.samples.items) (λ list. list.items) (with_samples c.args.self c.loop-word.samples.items c.in-Some.word.now) (samples c.args.self c.args.words.now) _ c.in_err-push_word.ensures (λ none. ap (λ ws. after_all (with_samples c.args.self) [] ws) split ∙ stopped (with_samples c.args.self) _ _ _ _ _ t c.loop-word.invariant none))

pub returns : goal.returns
unfolding samples
returns c =
    let e =
    YieldsList-end (YieldsList-from_str_split {s = c.into_iter-word-iterator.result} 32 c.args.words.now (lit< tt) (cc) (cc) (cc)) c.loop-word.yielded _ c.loop-word.yielded_by _ _ c.in-None.is c.next.ensures.steps in
    let split = words_split c.args.words.now cc in
    ap (λ ws. after_all (with_samples c.args.self) [] ws) split
    ∙ finished (with_samples c.args.self) c.loop-word.samples.items
    (slice_split (λ b. b == space) c.args.words.now) (length c.loop-word.yielded) _
    (omega (arith, e.1)) c.loop-word.invariant
