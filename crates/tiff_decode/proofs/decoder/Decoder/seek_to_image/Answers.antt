use Rattle.std.proofs.Common.{Err, refl, sym, ◌∙◌}
use Rattle.tiff_base.specs.lemmas.Contents.{same_bytes}
use Rattle.tiff_decode.specs.Machine.{State, from_fields}
use Rattle.tiff_decode.specs.Outcome.{seek_to_image}
use Rattle.tiff_decode.proofs.Asked.{none_asks, sought_entry, sought_past, sought_way}
use Rattle.tiff_decode.specs.lemmas.ChainPosition.{none_found, seek_cut, seek_known, seek_past, along_on, stands_longer, stands_told, stays_refused, shown, told_same, unfailed}
use Rattle.tiff_decode.proofs.decoder.Decoder.seek_to_image.Goals as goal

pub invariant_of-self : goal.invariant_of-self
invariant_of-self g c =
    let s = c.self.inside in
    let longer = c.offset_of.ensures.longer in
    along_on s.tags.kind _ s.tags.order _ (g.R.Source.contents s.tags.source).bytes _ s.first c.offset_of.new.self _ _
    c.enter_offset.ensures.kind c.enter_offset.ensures.order (same_bytes (c.enter_offset.ensures.kept.contents ∙ c.offset_of.ensures.kept.contents))
    (c.offset_of.ensures.begins s.first c.self.invariant.begins)
    (c.enter_offset.ensures.stands c.offset_of.new.self.offsets
    (stands_longer s.walk.offsets c.offset_of.new.self.offsets longer.0 s.standing.pointer s.standing.at longer.1 c.self.invariant.stands)
    (sym (rw c.in-Ok-Some.field-0-is at c.in-Ok-Some.ensures.there)))

pub invariant_of-self-in-Ok-None : goal.invariant_of-self-in-Ok-None
invariant_of-self-in-Ok-None g c =
    let s = c.self.inside in
    let longer = c.offset_of.ensures.longer in
    let past = c.past-self-inside in
    along_on s.tags.kind _ s.tags.order _ (g.R.Source.contents s.tags.source).bytes _ s.first c.offset_of.new.self past.result.pointer past.result.at
    refl refl (same_bytes c.offset_of.ensures.kept.contents) (c.offset_of.ensures.begins s.first c.self.invariant.begins)
    past.ensures.stands

pub invariant_of-self-then-keeps_state : goal.invariant_of-self-then-keeps_state
invariant_of-self-then-keeps_state g c =
    let s = c.self.inside in
    let longer = c.offset_of.ensures.longer in
    along_on s.tags.kind _ s.tags.order _ (g.R.Source.contents s.tags.source).bytes _ s.first c.offset_of.new.self _ _
    refl refl (same_bytes c.offset_of.ensures.kept.contents) (c.offset_of.ensures.begins s.first c.self.invariant.begins)
    (stands_longer s.walk.offsets c.offset_of.new.self.offsets longer.0 s.standing.pointer s.standing.at longer.1 c.self.invariant.stands)

pub invariant_of-self-in-Err : goal.invariant_of-self-in-Err
invariant_of-self-in-Err g c =
    let s = c.self.inside in
    let longer = c.offset_of.ensures.longer in
    let past = c.past-self-inside-in-Err in
    along_on s.tags.kind _ s.tags.order _ (g.R.Source.contents s.tags.source).bytes _ s.first c.offset_of.new.self past.result.pointer past.result.at
    refl refl (same_bytes c.offset_of.ensures.kept.contents) (c.offset_of.ensures.begins s.first c.self.invariant.begins)
    past.ensures.stands

pub returns-in-Ok-Some-clause-follows : goal.returns-in-Ok-Some-clause-follows
returns-in-Ok-Some-clause-follows g c =
    let s = c.self.inside in
    let d = from_fields g.R.Source.contents g.R.Source.failures s.tags s.first s.standing.pointer s.standing.more s.page s.offset in
    let h = rw c.in-Ok-Some.field-0-is at c.in-Ok-Some.ensures.offset in
    shown (λ x. seek_to_image x c.args.ifd_index) c.enter_offset.result d _ _ c.self.view_is
    (seek_known c.enter_offset.result d _ _ c.args.ifd_index c.in-Ok-Some.offset (h s.first c.self.invariant.begins)
    (told_same d _ _ c.offset_of.ensures.kept.contents c.in-Ok-Some.ensures.kept.swallowed) (c.enter_offset.ensures.follows s.first s.offset))

pub returns-in-Ok-None-clause-follows : goal.returns-in-Ok-None-clause-follows
returns-in-Ok-None-clause-follows g c =
    let s = c.self.inside in
    let d = from_fields g.R.Source.contents g.R.Source.failures s.tags s.first s.standing.pointer s.standing.more s.page s.offset in
    let past = c.past-self-inside in
    let next : State = record d.state { pointer = past.result.pointer; more = past.result.more } in
    let none = rw c.in-Ok-None.field-0-is at c.in-Ok-None.ensures.offset in
    let ends = rw c.in-Ok-None.field-0-is at c.in-Ok-None.ensures.end in
    shown (λ x. seek_to_image x c.args.ifd_index) (Err c.into.result) d _ _ c.self.view_is
    (none_found c.into.result (seek_to_image d c.args.ifd_index) next d _ c.into.ensures
    (seek_past d c.args.ifd_index c.offset_of.new.self.offsets past.result.pointer past.result.more (none s.first c.self.invariant.begins) (ends s.first c.self.invariant.begins)
    past.ensures.pointer past.ensures.more)
    (stands_told next d _ _ c.offset_of.ensures.kept.contents c.in-Ok-None.ensures.kept.swallowed))

pub returns-then-keeps_state-clause-follows : goal.returns-then-keeps_state-clause-follows
returns-then-keeps_state-clause-follows g c =
    let s = c.self.inside in
    let d = from_fields g.R.Source.contents g.R.Source.failures s.tags s.first s.standing.pointer s.standing.more s.page s.offset in
    shown (λ x. seek_to_image x c.args.ifd_index) (Err c.in-Err.fault) d _ _ c.self.view_is
    (stays_refused _ c.in-Err.fault (seek_to_image d c.args.ifd_index) d (g.R.Source.contents c.offset_of.new.source) _ (sym c.keeps_state.ensures ∙ c.if-keeps_state.true)
    c.offset_of.ensures.kept.contents c.in-Err.ensures.cut c.offset_of.ensures.kept.failures c.in-Err.ensures.kept.swallowed)

pub returns-in-Err-clause-follows : goal.returns-in-Err-clause-follows
returns-in-Err-clause-follows g c =
    let s = c.self.inside in
    let d = from_fields g.R.Source.contents g.R.Source.failures s.tags s.first s.standing.pointer s.standing.more s.page s.offset in
    let past = c.past-self-inside-in-Err in
    let next : State = record d.state { pointer = past.result.pointer; more = past.result.more } in
    let moves = sym c.keeps_state.ensures ∙ c.if-keeps_state.false in
    shown (λ x. seek_to_image x c.args.ifd_index) (Err c.shown_fault.result) d _ _ c.self.view_is
    (seek_cut _ _ _ c.in-Err.fault c.shown_fault.result d _ c.args.ifd_index c.offset_of.new.self.offsets past.result.pointer past.result.more moves c.in-Err.ensures.cut
    (λ cut. cut s.first c.self.invariant.begins) past.ensures.pointer past.ensures.more c.shown_fault.ensures
    (stands_told next d _ _ c.offset_of.ensures.kept.contents (unfailed c.in-Err.fault _ _ moves c.in-Err.ensures.kept.swallowed)))

-- ---- the bytes that the call reads

pub returns-in-Ok-Some-clause-asked : goal.returns-in-Ok-Some-clause-asked
returns-in-Ok-Some-clause-asked g c =
    let s = c.self.inside in
    let d = from_fields g.R.Source.contents g.R.Source.failures s.tags s.first s.standing.pointer s.standing.more s.page s.offset in
    let h = rw c.in-Ok-Some.field-0-is at c.in-Ok-Some.ensures.offset in
    sought_entry d _ (g.R.Source.contents c.offset_of.new.source) c.args.ifd_index c.in-Ok-Some.offset c.enter_offset.result c.self.view_is c.offset_of.ensures.kept.contents
    (h s.first c.self.invariant.begins) c.enter_offset.ensures.asked

pub returns-then-keeps_state-clause-asked : goal.returns-then-keeps_state-clause-asked
returns-then-keeps_state-clause-asked g c =
    let s = c.self.inside in
    let d = from_fields g.R.Source.contents g.R.Source.failures s.tags s.first s.standing.pointer s.standing.more s.page s.offset in
    sought_way d _ c.args.ifd_index c.in-Err.fault c.self.view_is
    (c.in-Err.ensures.asked s.first c.self.invariant.begins)

pub returns-in-Ok-None-clause-asked : goal.returns-in-Ok-None-clause-asked
returns-in-Ok-None-clause-asked g c = none_asks c.into.result c.into.ensures

pub returns-in-Err-clause-asked : goal.returns-in-Err-clause-asked
returns-in-Err-clause-asked g c =
    let s = c.self.inside in
    let d = from_fields g.R.Source.contents g.R.Source.failures s.tags s.first s.standing.pointer s.standing.more s.page s.offset in
    sought_past d _ c.args.ifd_index c.in-Err.fault c.shown_fault.result s.standing.more c.self.view_is (c.in-Err.ensures.asked s.first c.self.invariant.begins) c.shown_fault.ensures
