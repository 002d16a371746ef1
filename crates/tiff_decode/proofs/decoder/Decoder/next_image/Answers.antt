use Rattle.std.proofs.Common.{Some, None, Err, false, refl, sym, ◌∙◌}
use Rattle.tiff_decode.specs.Machine.{from_fields}
use Rattle.tiff_decode.specs.Outcome.{next_image}
use Rattle.tiff_decode.proofs.Asked.{entered_page, last_known, next_behind, next_entry, none_asks, past_known}
use Rattle.tiff_decode.specs.lemmas.ChainPosition.{offset_behind, next_known, next_read, next_closed, added_at, answered, unfailed, none_found, shown_open, told_same, stands_told, stays_refused}
use Rattle.tiff_decode.proofs.decoder.Decoder.next_image.Goals as goal

pub returns-in-Some-clause-follows : goal.returns-in-Some-clause-follows
returns-in-Some-clause-follows g c =
    let s = c.self.inside in
    let d = from_fields g.R.Source.contents g.R.Source.failures s.tags s.first s.standing.pointer s.standing.more s.page s.offset in
    shown_open c.enter_offset.result d _ _ c.self.view_is (cc)
    (next_known c.enter_offset.result d _ s.walk s.standing.at c.following-at.result c.in-Some.offset c.self.invariant (cc) c.following-at.ensures.number
    (sym c.get-known.ensures ∙ c.in-Some.is) (c.enter_offset.ensures.follows s.first s.offset))

pub returns-in-Ok-Some-clause-follows : goal.returns-in-Ok-Some-clause-follows
returns-in-Ok-Some-clause-follows g c =
    let s = c.self.inside in
    let d = from_fields g.R.Source.contents g.R.Source.failures s.tags s.first s.standing.pointer s.standing.more s.page s.offset in
    let e = rw c.in-Ok-Some.field-0-is at c.in-Ok-Some.ensures.entered in
    shown_open c.enter_directory.result d _ _ c.self.view_is (cc)
    (next_read c.enter_directory.result d _ _ s.walk c.enter_behind.new.walk s.standing.at c.following-at.result c.in-Ok-Some.offset c.in-Ok-Some.directory
    c.self.invariant (cc) c.following-at.ensures.number (c.enter_behind.ensures.begins s.first c.self.invariant.begins)
    (added_at s.walk.offsets c.enter_behind.new.walk.offsets c.following-at.result c.in-Ok-Some.offset e.0 c.following-at.ensures.entered
    (past_known _ _ _ c.get-known.ensures c.in_default.not-Some))
    e.1 (told_same d _ _ c.enter_behind.ensures.kept.contents c.in-Ok-Some.ensures.kept.swallowed) (c.enter_directory.ensures.follows s.first s.offset))

pub returns-in-Ok-None-clause-follows : goal.returns-in-Ok-None-clause-follows
returns-in-Ok-None-clause-follows g c =
    let s = c.self.inside in
    let d = from_fields g.R.Source.contents g.R.Source.failures s.tags s.first s.standing.pointer s.standing.more s.page s.offset in
    let e = rw c.in-Ok-None.field-0-is at c.in-Ok-None.ensures.end in
    shown_open (Err c.into-in-Ok-None.result) d _ _ c.self.view_is (cc)
    (none_found c.into-in-Ok-None.result (next_image d) (record d.state { more = false }) d _ c.into-in-Ok-None.ensures
    (next_closed d s.walk s.standing.at c.following-at.result None c.self.invariant (cc) c.following-at.ensures.number
    (past_known _ _ _ c.get-known.ensures c.in_default.not-Some)
    (e.1 s.first c.self.invariant.begins))
    (stands_told (record d.state { more = false }) d _ _ c.enter_behind.ensures.kept.contents c.in-Ok-None.ensures.kept.swallowed))

pub returns-then-keeps_state-clause-follows : goal.returns-then-keeps_state-clause-follows
returns-then-keeps_state-clause-follows g c =
    let s = c.self.inside in
    let d = from_fields g.R.Source.contents g.R.Source.failures s.tags s.first s.standing.pointer s.standing.more s.page s.offset in
    shown_open (Err c.in-Err.fault) d _ _ c.self.view_is (cc)
    (stays_refused _ c.in-Err.fault (next_image d) d (g.R.Source.contents c.enter_behind.new.source) _ (sym c.keeps_state.ensures ∙ c.if-keeps_state.true)
    c.enter_behind.ensures.kept.contents c.in-Err.ensures.cut c.enter_behind.ensures.kept.failures c.in-Err.ensures.kept.swallowed)

pub returns-in-Err-clause-follows : goal.returns-in-Err-clause-follows
returns-in-Err-clause-follows g c =
    let s = c.self.inside in
    let d = from_fields g.R.Source.contents g.R.Source.failures s.tags s.first s.standing.pointer s.standing.more s.page s.offset in
    shown_open (Err c.in-Err.fault) d _ _ c.self.view_is (cc)
    (answered _ _ _ c.in-Err.fault (next_image d) (record d.state { more = false }) d _ (sym c.keeps_state.ensures ∙ c.if-keeps_state.false) c.in-Err.ensures.cut
    (λ ends. next_closed d s.walk s.standing.at c.following-at.result (Some c.in-Err.fault) c.self.invariant (cc) c.following-at.ensures.number
    (past_known _ _ _ c.get-known.ensures c.in_default.not-Some)
    (ends s.first c.self.invariant.begins))
    (stands_told (record d.state { more = false }) d _ _ c.enter_behind.ensures.kept.contents
    (unfailed c.in-Err.fault _ _ (sym c.keeps_state.ensures ∙ c.if-keeps_state.false) c.in-Err.ensures.kept.swallowed)))

-- ---- the bytes that the call reads

pub returns-in-Some-clause-asked : goal.returns-in-Some-clause-asked
returns-in-Some-clause-asked g c =
    let s = c.self.inside in
    let d = from_fields g.R.Source.contents g.R.Source.failures s.tags s.first s.standing.pointer s.standing.more s.page s.offset in
    next_entry d _ (g.R.Source.contents s.tags.source) c.in-Some.offset c.enter_offset.result c.self.view_is refl
    (offset_behind d s.walk s.walk s.standing.at c.following-at.result c.in-Some.offset c.self.invariant (cc) c.following-at.ensures.number c.self.invariant.begins
    (sym c.get-known.ensures ∙ c.in-Some.is)) c.enter_offset.ensures.asked

pub returns-in-Ok-Some-clause-asked : goal.returns-in-Ok-Some-clause-asked
returns-in-Ok-Some-clause-asked g c =
    let s = c.self.inside in
    let d = from_fields g.R.Source.contents g.R.Source.failures s.tags s.first s.standing.pointer s.standing.more s.page s.offset in
    let e = rw c.in-Ok-Some.field-0-is at c.in-Ok-Some.ensures.entered in
    next_entry d _ (g.R.Source.contents s.tags.source) c.in-Ok-Some.offset c.enter_directory.result c.self.view_is refl
    (offset_behind d s.walk c.enter_behind.new.walk s.standing.at c.following-at.result c.in-Ok-Some.offset c.self.invariant (cc) c.following-at.ensures.number
    (c.enter_behind.ensures.begins s.first c.self.invariant.begins)
    (added_at s.walk.offsets c.enter_behind.new.walk.offsets c.following-at.result c.in-Ok-Some.offset e.0 c.following-at.ensures.entered
    (past_known _ _ _ c.get-known.ensures c.in_default.not-Some)))
    (entered_page (g.R.Source.contents s.tags.source) (g.R.Source.contents c.enter_behind.new.source) s.tags.kind s.tags.order c.in-Ok-Some.offset c.in-Ok-Some.directory
    c.enter_directory.result c.enter_behind.ensures.kept.contents e.1 c.enter_directory.ensures.asked)

pub returns-then-keeps_state-clause-asked : goal.returns-then-keeps_state-clause-asked
returns-then-keeps_state-clause-asked g c =
    let s = c.self.inside in
    next_behind _ _ (g.R.Source.contents s.tags.source) s.walk c.in-Err.fault c.self.view_is refl c.self.invariant.begins
    (last_known s.walk.offsets s.standing.pointer s.standing.at _ _ c.self.invariant.stands c.following-at.ensures.number c.get-known.ensures c.in_default.not-Some) c.in-Err.ensures.asked

pub returns-in-Err-clause-asked : goal.returns-in-Err-clause-asked
returns-in-Err-clause-asked g c =
    let s = c.self.inside in
    next_behind _ _ (g.R.Source.contents s.tags.source) s.walk c.in-Err.fault c.self.view_is refl c.self.invariant.begins
    (last_known s.walk.offsets s.standing.pointer s.standing.at _ _ c.self.invariant.stands c.following-at.ensures.number c.get-known.ensures c.in_default.not-Some) c.in-Err.ensures.asked

pub returns-in-Ok-None-clause-asked : goal.returns-in-Ok-None-clause-asked
returns-in-Ok-None-clause-asked g c = none_asks c.into-in-Ok-None.result c.into-in-Ok-None.ensures
