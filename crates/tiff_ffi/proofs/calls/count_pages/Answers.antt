use Rattle.std.proofs.Common.{◌≤◌, ◌+◌, length, arith, rules}
use Rattle.tiff_ffi.proofs.Counting.{Counting, all_pages, counts_first, counts_next, few_bytes, fewer_left, refused_next}
use Rattle.tiff_ffi.proofs.calls.count_pages.Goals as goal
use Rattle.tiff_ffi.proofs.calls.count_pages.Goals.{In_ok-advance}

pub pages-init : goal.pages-init
pages-init c = counts_first c.walk_opens.ensures c.args.decoder.now c.requires

pub returns-in_err-advance : goal.returns-in_err-advance
returns-in_err-advance c =
    let told =
    refused_next c.walk_goes_on.ensures c.args.decoder.now c.pages.decoder c.pages.count c.in_err-advance.field-0.0 c.requires c.pages.invariant (cc (c.more_images.ensures, c.pages-test.true))
    c.in_err-advance.ensures.answer in
    search rules

-- One page more is counted.
counted : (c : In_ok-advance) → Counting c.args.decoder.now (c.pages.count + 1) c.advance.new.decoder
counted c =
    counts_next c.walk_goes_on.ensures c.args.decoder.now c.pages.decoder c.advance.new.decoder c.pages.count c.pages.invariant (cc (c.more_images.ensures, c.pages-test.true)) c.in_ok-advance.ensures.answer
    c.in_ok-advance.ensures.gone

pub overflow_add-count : goal.overflow_add-count
overflow_add-count c =
    let next = counted (goal.at.overflow_add-count c).In_ok-advance in
    let few : c.pages.count + 1 ≤ length c.args.decoder.now.bytes =
    few_bytes c.args.decoder.now c.advance.new.decoder (c.pages.count + 1) next in
    let fits = c.bytes_fit.ensures in
    omega arith

pub pages-preserved : goal.pages-preserved
pages-preserved c = counted (goal.at.pages-preserved c).In_ok-advance

pub pages-smaller : goal.pages-smaller
pages-smaller c =
    fewer_left c.args.decoder.now c.pages.decoder c.advance.new.decoder c.pages.count c.pages.invariant
    (pages-preserved c)

pub returns : goal.returns
returns c =
    all_pages c.walk_ends.ensures c.args.decoder.now c.pages.decoder c.pages.count c.requires c.pages.invariant
    (cc (c.more_images.ensures, c.pages-test.false))
