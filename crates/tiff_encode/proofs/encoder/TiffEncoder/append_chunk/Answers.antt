use Rattle.std.proofs.Common.{rules, ap, ◌∙◌, ◌++◌, ◌∷◌, [], length, refl}
use Rattle.tiff_encode.proofs.Storing.{append_refused, append_wanting, append_cut, append_done}
use Rattle.tiff_encode.proofs.encoder.TiffEncoder.append_chunk.Goals as goal

pub returns-in_err-offset : goal.returns-in_err-offset
returns-in_err-offset g c =
    let told =
    append_refused c.args.self.now c.args.image.now c.args.count c.args.stored.now _ c.in_err-offset.field-0.0 refl c.in_err-offset.ensures in
    search rules

pub returns-in_default : goal.returns-in_default
returns-in_default g c =
    let chunks = c.in_default.ensures.items ∙ ap (λ i. i.chunks) c.image.view_is in
    append_wanting c.args.self.now c.args.image.now c.args.count c.args.stored.now _ _ refl c.in_ok-offset.ensures.2
    (λ j. record (c.image.view_is j) { chunks = chunks j })

pub returns-in_err-append : goal.returns-in_err-append
returns-in_err-append g c =
    let told =
    let chunks = c.in-Ok.ensures.items ∙ ap (λ i. i.chunks) c.image.view_is in
    append_cut c.args.self.now c.args.image.now c.args.count c.args.stored.now _ c.in_err-append.field-0.0 c.append.new.self _ refl c.in_ok-offset.ensures.0 c.in_ok-offset.ensures.2
    c.in_err-append.ensures (λ j. record (c.image.view_is j) { chunks = chunks j }) in
    search rules

pub returns : goal.returns
returns g c =
    let before = c.in-Ok.ensures.items ∙ ap (λ i. i.chunks) c.image.view_is in
    let chunks =
    c.push_reserved.ensures.items
    ∙ (λ j. before j ++ (record { offset = c.in_ok-offset.offset; stored = length c.args.stored.now }) ∷ []) in
    append_done c.args.self.now c.args.image.now c.args.count c.args.stored.now _ c.in_ok-offset.offset c.append.new.self _ refl c.in_ok-offset.ensures.2 c.in_ok-offset.ensures.1
    c.in_ok-append.ensures.1 (λ j. record (c.image.view_is j) { chunks = chunks j })
