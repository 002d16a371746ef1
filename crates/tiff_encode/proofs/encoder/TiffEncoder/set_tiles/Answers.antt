use Rattle.std.proofs.Common.{rules, [], ◌∷◌, ap, refl, ◌∙◌}
use Rattle.tiff_encode.specs.Calls.{tiles_of}
use Rattle.tiff_encode.proofs.Image.Table.{Sides, row}
use Rattle.tiff_encode.proofs.Settings.{set_refused, set_fails, set_so, tags_fail, tags_so, tiles_short}
use Rattle.tiff_encode.proofs.encoder.TiffEncoder.set_tiles.Goals as goal

pub returns-in_err-check_tiles-clause-answer : goal.returns-in_err-check_tiles-clause-answer
returns-in_err-check_tiles-clause-answer g c =
    let told =
    set_refused (Sides c.args.width c.args.length) c.args.image.now c.args.self.now c.in_err-check_tiles.field-0.0 c.in_err-check_tiles.ensures in
    search rules

pub returns-in_err-fields-clause-answer : goal.returns-in_err-fields-clause-answer
returns-in_err-fields-clause-answer g c =
    let told =
    let i = c.args.image.now in
    let old = c.args.self.now in
    set_fails (Sides c.args.width c.args.length) i old c.in_err-fields.field-0.0 i.directory old c.in_ok-check_tiles.ensures.0 refl
    (tiles_short old i c.args.width c.args.length c.in_err-fields.field-0.0 c.in_ok-check_tiles.ensures.0 c.in_err-fields.ensures) in
    search rules

pub returns-in_err-set_tags-clause-answer : goal.returns-in_err-set_tags-clause-answer
returns-in_err-set_tags-clause-answer g c =
    let told =
    let old = c.args.self.now in
    let d = c.in_ok-fields.fields in
    let sides = Sides c.args.width c.args.length in
    set_fails sides c.args.image.now old c.in_err-set_tags.field-0.0 d c.set_tags.new.self
    c.in_ok-check_tiles.ensures.0 (c.in_ok-fields.ensures ∙ ap (λ x. x.directory) c.image.view_is)
    (tags_fail _ (row sides).tags (λ k. c.long.ensures k ∷ c.long-2.ensures k
    ∷ []) d c.in_err-set_tags.field-0.0 old c.set_tags.new.self c.in_err-set_tags.ensures.answer) in
    search rules

pub returns-clause-answer : goal.returns-clause-answer
returns-clause-answer g c =
    let old = c.args.self.now in
    let d = c.in_ok-fields.fields in
    let sides = Sides c.args.width c.args.length in
    set_so sides c.args.image.now old d c.set_tags.new.fields _ c.set_tags.new.self
    c.in_ok-check_tiles.ensures.0 (c.in_ok-fields.ensures ∙ ap (λ x. x.directory) c.image.view_is)
    (tags_so _ (row sides).tags (λ k. c.long.ensures k ∷ c.long-2.ensures k
    ∷ []) d c.set_tags.new.fields old c.set_tags.new.self c.in_ok-set_tags.ensures.answer)
    (λ k. record (c.image.view_is k) { directory = c.remove.ensures k; form = tiles_of c.args.width c.args.length (c.image.view_is k).form.planar })
