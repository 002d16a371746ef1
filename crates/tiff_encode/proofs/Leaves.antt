-- What the file contains after a header is written.
use Rattle.std.proofs.Common.{◌≡◌, ℕ, ◌+◌, ◌-◌, List, [], length, ap, sym, subst, ◌∙◌, arith, length-append, inl}
use Rattle.tiff_base.specs.declared.tags.FileKind.{FileKind}
use Rattle.tiff_base.specs.Number.{le}
use Rattle.tiff_value.specs.Written.{Written, new_writer, writer_after}
use Rattle.tiff_value.specs.FileBytes.{offset_len, header_mark, header_bytes}
use Rattle.tiff_value.specs.Model.{FileContains, header_link, header_model}
use Rattle.tiff_encode.specs.Shows.{LeavesHeader}
use Rattle.tiff_base.specs.lemmas.Slices.{length-le}
use Rattle.tiff_value.specs.lemmas.File.Header.{header_stands}
use Rattle.tiff_value.specs.lemmas.Put.{put_end}

-- the model of a header describes the file of a header that is written to an empty sink
pub leaves_header : (kind : FileKind) (contents : List ℕ) (failures at width : ℕ)
    (first last : Written) → first ≡ new_writer contents failures
    → last ≡ record (writer_after first (header_bytes kind)) { last = offset_len kind }
    → at ≡ last.at → width ≡ offset_len kind → contents ≡ []
    → LeavesHeader kind last.bytes (at - width)
leaves_header kind contents failures at width first last s t a k empty =
    let header : List ℕ = header_bytes kind in
    let new = λ (w : Written). record (writer_after w header) { last = offset_len kind } in
    let whole : last ≡ new (new_writer [] failures) =
    t ∙ ap new (s ∙ ap (λ (l : List ℕ). new_writer l failures) empty) in
    let bytes : header ≡ last.bytes =
    sym (ap (λ (w : Written). w.bytes) whole ∙ put_end [] header 0 (omega arith)) in
    let end : last.at ≡ 0 + length header = ap (λ (w : Written). w.at) whole in
    let chain : at - width ≡ header_link kind =
    omega (arith, a, k, end, length-append (header_mark kind) (le (offset_len kind) 0), length-le 0 (offset_len kind) 0) in
    record {
      stands =
          subst (λ (l : List ℕ). FileContains kind l (header_model kind)) bytes (header_stands kind);
      link = inl chain;
    }
