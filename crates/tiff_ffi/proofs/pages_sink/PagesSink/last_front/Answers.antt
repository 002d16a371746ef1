use Rattle.std.proofs.Common.{◌≡◌, ◌+◌, ◌-◌, ◌≤◌, ℕ, List, get_or, length, ap, ◌∙◌, arith}
use Rattle.std.proofs.lemmas.List.{length-map}
use Rattle.std.proofs.lemmas.Grind.{get_or_default_zero}
use Rattle.tiff_ffi.specs.PagesSink.{IsStored, page_samples}
use Rattle.tiff_ffi.proofs.Stretches.{front_end, front_is}
use Rattle.tiff_ffi.proofs.pages_sink.PagesSink.last_front.Goals as goal
use Rattle.tiff_ffi.proofs.pages_sink.PagesSink.last_front.Goals.{After-behind}

-- The bytes of the last front are stored, in front of its samples and of those behind all samples.
stored : (g : _) (c : After-behind g)
    → (c.index-len.result.now + length c.samples_of-samples.result.now ≤ c.behind.result.at)
    × IsStored c.args.self.now (record {
      at = c.behind.result.at - (c.index-len.result.now + length c.samples_of-samples.result.now);
      from = c.args.self.now.kept - c.index-len.result.now;
      len = c.index-len.result.now;
    })
stored g c =
    let s = c.args.self.now in
    let page : ℕ = c.len-pages.result - 1 in
    let last : page + 1 ≡ length s.fronts.items =
    (let l = c.len-pages.ensures in let o = s.fronts.ok in let some = c.if-pages-eq0.false in
    omega (arith, l, o, some)) in
    let here : c.index-len.result.now ≡ get_or s.fronts.items page 0 =
    c.index-len.ensures
    ∙ get_or_default_zero s.fronts.items page c.index-len.result.now (omega (arith, last)) in
    let pages : length s.fronts.items ≤ length (page_samples s) =
    (let l = s.in_pages in omega (arith, l, length-map s.samples.items (λ b. b.now))) in
    let end =
    front_end s.around.items s.fronts.items (page_samples s) s.kept s.in_fronts s.in_around
    page c.index-len.result.now last pages here in
    let samples = ap (λ (l : List ℕ). length l) c.samples_of-samples.ensures in
    let behind = c.behind.ensures.end in
    let kept = c.behind.ensures.len in
    let size = s.sized in (
      omega (arith, end, samples, behind, kept, size),
      front_is s.around.items s.fronts.items (page_samples s) s.kept s.in_fronts s.in_around
          page c.index-len.result.now last pages here _
          (omega (arith, end, samples, behind, kept, size)),
    )

pub overflow_sub-result : goal.overflow_sub-result
overflow_sub-result g c = (stored g (goal.at.overflow_sub-result g c).After-behind).0

pub returns : goal.returns
returns g c = (stored g (goal.at.returns g c).After-behind).1
