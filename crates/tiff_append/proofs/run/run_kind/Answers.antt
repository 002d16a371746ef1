use Rattle.std.proofs.Common.{◌≡◌, ℕ, List, length, ap, subst, ◌∙◌}
use Rattle.tiff_base.specs.declared.tags.FileKind.{FileKind}
use Rattle.tiff_value.specs.FileBytes.{offset_len}
use Rattle.tiff_append.specs.Behind.{IsAddedTo, behind_contents}
use Rattle.tiff_append.specs.lemmas.Behind.{ran_behind}
use Rattle.tiff_append.proofs.run.run_kind.Goals as goal

pub returns-in-Some : goal.returns-in-Some
returns-in-Some g c =
    let kind : FileKind = g.K.TiffKind.kind in
    let file : List ℕ = c.args.file.now in
    let left : List ℕ = behind_contents c.in_ok-sink-2.sink in
    let size : c.link_size-size.result ≡ offset_len kind =
    c.link_size-size.ensures ∙ ap (λ k. offset_len k) c.file_kind.ensures in
    let Added : ℕ → Type 0 = λ n. IsAddedTo left (length file) c.args.at n c.in-Some.addition in
    ran_behind kind file (behind_contents c.in_ok-sink.sink) c.args.at c.args.jobs.now c.args.replies.now.items c.run_at.new.replies.items left c.in-Some.addition
    c.in_ok-sink.ensures.contents c.in_ok-sink-2.ensures (subst Added size c.in-Some.ensures)
