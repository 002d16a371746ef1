use Rattle.std.proofs.Common.{[], ◌∷◌, ◌++◌, ap, sym, ◌∙◌, append-nil}
use Rattle.tiff_encode.proofs.Images.{first_of}
use Rattle.tiff_encode.proofs.encoder.image.begin.first_values.Goals as goal
use Rattle.tiff_encode.proofs.encoder.image.begin.first_values.Goals.{in-Some+in_ok-push, in_default}

pub returns : goal.returns
returns g c =
    let M = c.color_tags.result in
    let L = c.layout_values.result in
    let head =
    (c.in_ok-extend_from_slice.ensures).items ∙ ap (λ x. x ++ M) c.new-values.ensures.items in
    let last = (c.in_ok-extend_from_slice-2.ensures).items in
    elim c.match-chroma_value.branch [
      | in-Some+in_ok-push w ↦ first_of c.args.image.now M (w.in-Some.chroma
          ∷ []) L c.extend_from_slice-2.new.self.items c.color_tags.ensures w.in-Some.ensures c.layout_values.ensures
          (last ∙ ap (λ x. x ++ L) (ap (λ v. v.items) w.values-is ∙ (w.in_ok-push.ensures).items
          ∙ ap (λ x. x ++ (w.in-Some.chroma ∷ [])) head))
      | in_default w ↦ first_of c.args.image.now M [] L c.extend_from_slice-2.new.self.items c.color_tags.ensures w.in_default.ensures c.layout_values.ensures
          (last ∙ ap (λ x. x ++ L) (ap (λ v. v.items) w.values-is ∙ head ∙ sym (append-nil M)))
    ]
