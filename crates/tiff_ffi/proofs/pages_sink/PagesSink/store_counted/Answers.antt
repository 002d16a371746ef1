use Rattle.std.proofs.Common.{◌≡◌, ◌++◌, take, ap, ◌∙◌, arith}
use Rattle.std.proofs.lemmas.List.{length-take-le}
use Rattle.tiff_ffi.specs.PagesSink.{next_samples, page_samples}
use Rattle.tiff_ffi.proofs.Stored.{length_more, counted_stored}
use Rattle.tiff_ffi.proofs.pages_sink.PagesSink.store_counted.Goals as goal

pub invariant_of-self-2-clause-sized : goal.invariant_of-self-2-clause-sized
invariant_of-self-2-clause-sized g c =
    let s = c.args.self.now in
    let is : c.grow.new.items.items ≡ s.around.items ++ take s.count (next_samples s) =
    c.in_ok-grow.ensures.ok ∙ ap (λ l. s.around.items ++ take s.count l) c.next-next.ensures in
    let more =
    length_more s.around.items s.fronts.items (page_samples s) s.kept s.in_fronts s.in_around
    (take s.count (next_samples s)) c.grow.new.items.items is in
    let size = s.sized in
    let n = length-take-le s.count (next_samples s) s.in_next in
    omega (arith, more, size, n)

pub returns-clause-contents : goal.returns-clause-contents
returns-clause-contents g c =
    let s = c.args.self.now in
    let is : c.grow.new.items.items ≡ s.around.items ++ take s.count (next_samples s) =
    c.in_ok-grow.ensures.ok ∙ ap (λ l. s.around.items ++ take s.count l) c.next-next.ensures in
    counted_stored s.around.items s.fronts.items (page_samples s) s.kept s.in_fronts s.in_around
    (next_samples s) c.grow.new.items.items s.count is
