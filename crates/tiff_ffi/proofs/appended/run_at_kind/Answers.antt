use Rattle.std.proofs.Common.{◌≡◌, ℕ, List, ap, length, subst, ◌∙◌}
use Rattle.tiff_base.specs.declared.tags.FileKind.{FileKind}
use Rattle.tiff_value.specs.FileBytes.{offset_len}
use Rattle.tiff_append.specs.Behind.{IsAddedTo, behind_contents}
use Rattle.tiff_ffi.proofs.BehindRan.{added_behind}
use Rattle.tiff_ffi.proofs.appended.run_at_kind.Goals as goal

pub returns-in-Some : goal.returns-in-Some
returns-in-Some g c =
    let kind : FileKind = g.K.TiffKind.kind in
    let file : List ℕ = c.args.file.now in
    let final : List ℕ = behind_contents c.in_ok-sink-3.sink in
    let size : c.link_size-size.result ≡ offset_len kind =
    c.link_size-size.ensures ∙ ap (λ k. offset_len k) c.file_kind-kind.ensures in
    let Added : ℕ → Type 0 = λ n. IsAddedTo final (length file) c.args.at n c.in-Some.field-0 in
    let ran = rw (c.deref.ensures.value, c.deref-2.ensures.value) at c.in_ok-sink-2.ensures in
    added_behind kind c.args.at file (behind_contents c.in_ok-sink.sink)
    (behind_contents c.in_ok-sink-2.sink) c.in_ok-sink-2.refused c.args.jobs.now
    c.in_ok-sink.ensures.contents ran final c.in_ok-sink-3.refused c.in-Some.field-0 c.in_ok-sink-3.ensures (subst Added size c.in-Some.ensures)
