use Rattle.std.proofs.Common.{arith, rules, ◌≡◌, suc, true, Err, Some, None, refl, ap, sym, ◌∙◌}
use Rattle.std.proofs.lemmas.Result.{err_from_is_err_and}
use Rattle.std.specs.Result.{result_err}
use Rattle.tiff_base.specs.lemmas.Causes.{cause_along}
use Rattle.tiff_base.specs.declared.error.TiffError.{TiffError}
use Rattle.tiff_decode.specs.Machine.{Decoding}
use Rattle.tiff_decode.specs.Outcome.{next_image}
use Rattle.tiff_laws.specs.Pages.{Arrives, EndsBehind}
use Rattle.tiff_pages.specs.Pages.{state_along}
use Rattle.tiff_pages.proofs.Along.{WentOn, all_listed, ended, fewer, has_page, kept_cause, kept_state, lists_first, lists_next, moved, on_its_way, some_after, some_pointer, sought_first, stands_behind, stands_last, went_on}
use Rattle.tiff_pages.proofs.NoPages.{FoundNone, found, lists_none, none_by, some_by, some_here, stands_none, still_none, way_none}
use Rattle.tiff_pages.proofs.pages.list_pages.Goals as goal
use Rattle.tiff_pages.proofs.pages.list_pages.Goals.{Else-is_none, Else-place_of-here, In_ok-entered-2, Then-is_none, Then-place_of-here}

-- The decoder is at the first directory.
at_first : (g : _) (c : Else-is_none g) → Arrives c.args.decoder.now 0 c.in_ok-entered.entered c.seek_to_image.new.self
    × (c.seek_to_image.new.self ≡ record c.args.decoder.now { state = state_along c.args.decoder.now 0 })
at_first g c =
    sought_first c.walk_seeks.ensures c.args.decoder.now c.seek_to_image.new.self c.seek_to_image.result c.in_ok-entered.entered (some_here c.args.decoder.now c.seek_to_image.new.self c.seek_to_image.result c.in_ok-entered.ensures.1 c.seek_to_image.ensures.follows
    (λ p. some_by c.ifd_pointer.result c.is_none.result c.is_none.ensures c.if-is_none.false (c.ifd_pointer.ensures.0 ∙ p))) c.in_ok-entered.ensures
    c.seek_to_image.ensures.follows

-- The decoder went on.
goes_on : (g : _) (c : In_ok-entered-2 g)
    → WentOn c.args.decoder.now c.pages.decoder c.pages.pages.items c.pages.invariant c.in_ok-entered-2.entered c.next_image.new.self
goes_on g c =
    went_on c.walk_goes_on.ensures c.args.decoder.now c.pages.decoder c.next_image.new.self c.pages.pages.items c.pages.invariant c.next_image.result
    c.in_ok-entered-2.entered (cc (c.more_images.ensures, c.pages-test.true)) c.in_ok-entered-2.ensures (rw c.place_of-here.ensures.stays at c.next_image.ensures.follows)

-- The chain ends behind the directory that the decoder stayed at.
ends_here : (g : _) (c : Then-place_of-here g)
    → WentOn c.args.decoder.now c.pages.decoder c.pages.pages.items c.pages.invariant c.in_ok-entered-2.entered c.next_image.new.self
    → (e : TiffError) × (c.in_ok-entered-2.entered ≡ Err e) × EndsBehind c.args.decoder.now c.pages.invariant.listed.number (Some e)
ends_here g c w =
    ended c.walk_moves.ensures c.args.decoder.now c.pages.decoder c.next_image.new.self c.pages.pages.items c.pages.invariant c.in_ok-entered-2.entered
    c.place_of-here.result c.place_of.result w c.place_of-here.ensures.place c.place_of.ensures.place c.if-place_of-here.true

-- The decoder is at the next directory.
at_next : (g : _) (c : Else-place_of-here g)
    → WentOn c.args.decoder.now c.pages.decoder c.pages.pages.items c.pages.invariant c.in_ok-entered-2.entered c.next_image.new.self
    → Arrives c.args.decoder.now (suc c.pages.invariant.listed.number) c.in_ok-entered-2.entered c.next_image.new.self
at_next g c w =
    moved c.args.decoder.now c.pages.decoder c.next_image.new.self c.pages.pages.items c.pages.invariant c.in_ok-entered-2.entered
    c.place_of-here.result c.place_of.result w c.place_of-here.ensures.place c.place_of.ensures.place c.if-place_of-here.false

pub item_here-requires-clause-place : goal.item_here-requires-clause-place
item_here-requires-clause-place g c =
    let a = at_first g (goal.at.item_here-requires-clause-place g c).Else-is_none in
    rw c.ifd_pointer.ensures.1 (some_pointer c.args.decoder.now c.seek_to_image.new.self 0 c.in_ok-entered.entered a.0)

pub item_here-requires-clause-page : goal.item_here-requires-clause-page
item_here-requires-clause-page g c =
    let a = at_first g (goal.at.item_here-requires-clause-page g c).Else-is_none in
    rw c.ifd_pointer.ensures.1 (has_page c.args.decoder.now c.seek_to_image.new.self 0 c.in_ok-entered.entered a.0)

pub pages-init : goal.pages-init
pages-init g c =
    let a = at_first g (goal.at.pages-init g c).Else-is_none in
    lists_first c.args.decoder.now c.seek_to_image.new.self c.item_here.new.decoder c.in_ok-entered.entered c.in_ok-item_here.field-0 c.args.pages.now.items c.push.new.self.items a
    (c.in_ok-item_here.ensures.reads.stays ∙ c.ifd_pointer.ensures.1)
    (rw c.ifd_pointer.ensures.1 at c.in_ok-item_here.ensures.place)
    (rw c.ifd_pointer.ensures.1 at c.in_ok-item_here.ensures.page) c.requires c.in_ok-push.ensures.items

pub returns-in_err-entered-2-clause-way : goal.returns-in_err-entered-2-clause-way
returns-in_err-entered-2-clause-way g c =
    let l = c.pages.invariant in
    let kept =
    kept_state (c.pages.decoder.state.more ≡ true) (next_image c.pages.decoder) c.next_image.result c.in_err-entered-2.field-0.0 c.pages.decoder c.next_image.new.self
    c.in_err-entered-2.ensures (rw c.place_of-here.ensures.stays at c.next_image.ensures.follows) in
    let way =
    on_its_way c.args.decoder.now c.pages.decoder l.listed.number
    (Err c.in_err-entered-2.field-0.0) c.next_image.new.self.state l.listed.along
    (kept ∙ ap (λ (d : Decoding). d.state) l.state) in
    search rules

pub returns-in_err-entered-2-clause-refused : goal.returns-in_err-entered-2-clause-refused
returns-in_err-entered-2-clause-refused g c =
    let answered =
    err_from_is_err_and c.from_residual-in_err-entered-2.result c.from_residual-in_err-entered-2.ensures.1 in
    let same = ap (λ (d : Decoding). d.failures) c.pages.invariant.state in
    rw (answered.1, answered.2) (cause_along c.in_err-entered-2.field-0.0 (λ w. w)
    (λ f. omega (arith, f, same)) (λ h. h) (kept_cause (c.pages.decoder.state.more ≡ true) (next_image c.pages.decoder) c.next_image.result
    c.in_err-entered-2.field-0.0 c.pages.decoder c.next_image.new.self c.in_err-entered-2.ensures (rw c.place_of-here.ensures.stays at c.next_image.ensures.follows)))

pub place_of-requires : goal.place_of-requires
place_of-requires g c =
    let w = goes_on g (goal.at.place_of-requires g c).In_ok-entered-2 in
    some_after c.args.decoder.now c.pages.decoder c.next_image.new.self c.pages.pages.items c.pages.invariant c.in_ok-entered-2.entered w

pub returns-then-place_of-here-clause-pages : goal.returns-then-place_of-here-clause-pages
returns-then-place_of-here-clause-pages g c =
    let w = goes_on g (goal.at.returns-then-place_of-here-clause-pages g c).In_ok-entered-2 in
    let end = ends_here g (goal.at.returns-then-place_of-here-clause-pages g c).Then-place_of-here w in
    all_listed c.args.decoder.now c.pages.decoder c.pages.pages.items c.pages.invariant
    (Some end.0) c.err.result end.2 (c.err.ensures.value ∙ ap result_err end.1)

pub returns-then-place_of-here-clause-end : goal.returns-then-place_of-here-clause-end
returns-then-place_of-here-clause-end g c =
    let w = goes_on g (goal.at.returns-then-place_of-here-clause-end g c).In_ok-entered-2 in
    let end = ends_here g (goal.at.returns-then-place_of-here-clause-end g c).Then-place_of-here w in
    c.place_of.ensures.stays
    ∙ stands_behind c.args.decoder.now c.pages.decoder c.next_image.new.self c.pages.pages.items c.pages.invariant c.in_ok-entered-2.entered end.0 w end.2

pub item_here-requires-in-pages-clause-page : goal.item_here-requires-in-pages-clause-page
item_here-requires-in-pages-clause-page g c =
    let w = goes_on g (goal.at.item_here-requires-in-pages-clause-page g c).In_ok-entered-2 in
    let a = at_next g (goal.at.item_here-requires-in-pages-clause-page g c).Else-place_of-here w in
    let page = has_page c.args.decoder.now c.next_image.new.self _ c.in_ok-entered-2.entered a in
    rw c.place_of.ensures.stays page

pub returns-in_err-item_here-2-clause-way : goal.returns-in_err-item_here-2-clause-way
returns-in_err-item_here-2-clause-way g c =
    let w = goes_on g (goal.at.returns-in_err-item_here-2-clause-way g c).In_ok-entered-2 in
    let a = at_next g (goal.at.returns-in_err-item_here-2-clause-way g c).Else-place_of-here w in
    let stands =
    ap (λ (d : Decoding). d.state) (c.in_err-item_here-2.ensures.reads.file.stands
    ∙ ap (λ (d : Decoding). record d { failures = c.item_here-in-pages.new.decoder.failures }) (c.place_of.ensures.stays ∙ w.state)) in
    let way =
    on_its_way c.args.decoder.now c.next_image.new.self _ c.in_ok-entered-2.entered c.item_here-in-pages.new.decoder.state a.along stands in
    search rules

pub pages-preserved : goal.pages-preserved
pages-preserved g c =
    let w = goes_on g (goal.at.pages-preserved g c).In_ok-entered-2 in
    let a = at_next g (goal.at.pages-preserved g c).Else-place_of-here w in
    lists_next c.args.decoder.now c.pages.decoder c.next_image.new.self c.item_here-in-pages.new.decoder c.pages.pages.items c.push-in-pages.new.self.items c.pages.invariant
    c.in_ok-entered-2.entered c.in_ok-item_here-2.field-0 w a (c.in_ok-item_here-2.ensures.reads.stays ∙ c.place_of.ensures.stays)
    (rw c.place_of.ensures.stays at c.in_ok-item_here-2.ensures.place)
    (rw c.place_of.ensures.stays at c.in_ok-item_here-2.ensures.page) c.in_ok-push-2.ensures.items

pub pages-smaller : goal.pages-smaller
pages-smaller g c =
    fewer c.args.decoder.now c.pages.decoder c.item_here-in-pages.new.decoder c.pages.pages.items c.push-in-pages.new.self.items c.in_ok-item_here-2.field-0 c.pages.invariant
    (pages-preserved g c) c.in_ok-push-2.ensures.items

pub returns-in_err-push-2-clause-way : goal.returns-in_err-push-2-clause-way
returns-in_err-push-2-clause-way g c =
    let w = goes_on g (goal.at.returns-in_err-push-2-clause-way g c).In_ok-entered-2 in
    let a = at_next g (goal.at.returns-in_err-push-2-clause-way g c).Else-place_of-here w in
    let stands =
    ap (λ (d : Decoding). d.state) (c.in_ok-item_here-2.ensures.reads.stays
    ∙ c.place_of.ensures.stays ∙ w.state) in
    let way =
    on_its_way c.args.decoder.now c.next_image.new.self _ c.in_ok-entered-2.entered c.item_here-in-pages.new.decoder.state a.along stands in
    search rules

pub returns-clause-pages : goal.returns-clause-pages
returns-clause-pages g c =
    let l = c.pages.invariant in
    all_listed c.args.decoder.now c.pages.decoder c.pages.pages.items l None None
    (c.walk_ends.ensures c.args.decoder.now c.pages.decoder l.listed.number l.listed.along (cc (c.more_images.ensures, c.pages-test.false))) refl

pub returns-clause-end : goal.returns-clause-end
returns-clause-end g c =
    let l = c.pages.invariant in
    stands_last c.args.decoder.now c.pages.decoder c.pages.pages.items l
    (c.walk_ends.ensures c.args.decoder.now c.pages.decoder l.listed.number l.listed.along (cc (c.more_images.ensures, c.pages-test.false)))

-- ---- a chain without directories

nothing_found : (g : _) (c : Then-is_none g) → FoundNone c.args.decoder.now c.seek_to_image.new.self
nothing_found g c =
    found c.args.decoder.now c.seek_to_image.new.self c.seek_to_image.result c.walk_seeks.ensures c.in_ok-entered.ensures.1 c.seek_to_image.ensures.follows
    (sym c.ifd_pointer.ensures.0 ∙ none_by c.ifd_pointer.result c.is_none.result c.is_none.ensures c.if-is_none.true)

pub end_of_none-requires : goal.end_of_none-requires
end_of_none-requires g c =
    let f = nothing_found g (goal.at.end_of_none-requires g c).Then-is_none in
    rw c.ifd_pointer.ensures.1 (still_none c.args.decoder.now c.seek_to_image.new.self f)

pub returns-then-is_none-clause-pages : goal.returns-then-is_none-clause-pages
returns-then-is_none-clause-pages g c =
    let f = nothing_found g (goal.at.returns-then-is_none-clause-pages g c).Then-is_none in
    lists_none c.args.decoder.now c.seek_to_image.new.self c.args.pages.now.items c.end_of_none.result f c.requires (rw c.ifd_pointer.ensures.1 at c.end_of_none.ensures.end)

pub returns-then-is_none-clause-end : goal.returns-then-is_none-clause-end
returns-then-is_none-clause-end g c =
    let f = nothing_found g (goal.at.returns-then-is_none-clause-end g c).Then-is_none in
    stands_none c.args.decoder.now c.seek_to_image.new.self c.end_of_none.new.decoder c.end_of_none.result f (rw c.ifd_pointer.ensures.1 at c.end_of_none.ensures.past)

pub returns-then-is_none-clause-way : goal.returns-then-is_none-clause-way
returns-then-is_none-clause-way g c =
    let f = nothing_found g (goal.at.returns-then-is_none-clause-way g c).Then-is_none in
    way_none c.args.decoder.now c.seek_to_image.new.self c.end_of_none.new.decoder c.end_of_none.result f (rw c.ifd_pointer.ensures.1 at c.end_of_none.ensures.back)
