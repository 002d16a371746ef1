use Rattle.std.proofs.Common.{◌≡◌, ◌-◌, [], ◌∷◌, ◌++◌, length, sum, ap, ◌∙◌, arith}
use Rattle.std.proofs.lemmas.List.Sums.{sum_by-append}
use Rattle.tiff_ffi.specs.Spliced.{spliced}
use Rattle.tiff_ffi.specs.PagesSink.{page_samples}
use Rattle.tiff_ffi.proofs.Stored.{all_counted, is_page, length_ended}
use Rattle.tiff_ffi.proofs.pages_sink.PagesSink.end_page.Goals as goal
use Rattle.tiff_ffi.proofs.pages_sink.PagesSink.end_page.Goals.{In_ok-push_front}

-- The front of the page is behind the others.
added : (g : _) (c : In_ok-push_front g) → c.push_front.new.fronts.items
    ≡ c.args.self.now.fronts.items ++ (length c.args.self.now.around.items - c.args.self.now.kept) ∷ []
added g c =
    let s = c.args.self.now in
    let many : c.len-all.result ≡ length s.around.items =
    (let l = c.len-all.ensures in let o = s.around.ok in omega (arith, l, o)) in
    c.in_ok-push_front.ensures.ok ∙ ap (λ n. s.fronts.items ++ (n - s.kept) ∷ []) many

pub invariant_of-self-2-clause-in_fronts : goal.invariant_of-self-2-clause-in_fronts
invariant_of-self-2-clause-in_fronts g c =
    let s = c.args.self.now in
    let len = c.len-all.ensures in
    let kept = s.in_fronts in
    let around = s.in_around in
    let ok = s.around.ok in
    ap sum c.in_ok-push_front.ensures.ok
    ∙ sum_by-append (λ n. n) s.fronts.items ((c.len-all.result - s.kept) ∷ [])
    ∙ omega (arith, len, kept, around, ok)

pub invariant_of-self-2-clause-sized : goal.invariant_of-self-2-clause-sized
invariant_of-self-2-clause-sized g c =
    let s = c.args.self.now in
    let all = c.requires.all in
    let some = c.requires.some in
    let size = s.sized in
    let is = added g (goal.at.invariant_of-self-2-clause-sized g c).In_ok-push_front in
    let there = is_page (page_samples s) (length s.fronts.items) (omega (arith, all, some)) in
    let more =
    ap (λ l. length (spliced s.around.items l (page_samples s))) is
    ∙ length_ended s.around.items s.fronts.items (page_samples s) s.kept s.in_fronts s.in_around
    there in
    omega (arith, more, all, size)

pub returns-clause-ok : goal.returns-clause-ok
returns-clause-ok g c =
    let s = c.args.self.now in
    let all = c.requires.all in
    let some = c.requires.some in
    let is = added g (goal.at.returns-clause-ok g c).In_ok-push_front in
    let there = is_page (page_samples s) (length s.fronts.items) (omega (arith, all, some)) in
    ap (λ l. spliced s.around.items l (page_samples s) ++ []) is
    ∙ all_counted s.around.items s.fronts.items (page_samples s) s.kept s.in_fronts s.in_around
    [] s.count c.args.n there all
