-- After a header is written, its model describes the file.
use Rattle.std.proofs.Common.{◌≡◌, ℕ, ◌^◌, ◌<◌, List, [], ◌++◌, length, Ok, refl, ap, sym, ◌∙◌, inl, inr, arith, lit<, append-nil, length-append}
use Rattle.tiff_base.specs.declared.tags.FileKind.{FileKind}
use Rattle.tiff_base.specs.declared.tags.FileKind.TheVariants.{Classic, Big}
use Rattle.tiff_base.specs.declared.tags.ByteOrder.TheVariants.{LittleEndian}
use Rattle.tiff_base.specs.Number.{number_at, le}
use Rattle.tiff_base.specs.Directory.{offset_width}
use Rattle.tiff_value.specs.FileBytes.{offset_len, header_mark, header_bytes}
use Rattle.tiff_value.specs.Model.{IsLink, header_link, header_model}
use Rattle.tiff_value.specs.FileLaws.{HeaderStands}
use Rattle.tiff_base.specs.lemmas.Slices.{exact_mid, number_mid, is_offset_width, length-le}

-- 0 fits a link
pub zero_fits : (kind : FileKind) → 0 < 256 ^ offset_len kind
zero_fits Classic = lit< tt
zero_fits Big = lit< tt

-- a header has no link except its own
pub only_link : (kind : FileKind) (q : ℕ) → IsLink kind (header_model kind) q → q ≡ header_link kind
only_link kind q l = elim l [ inl e ↦ e | inr y ↦ absurd y.1.0 ]

-- the model of a header describes the file after the header is written
pub header_stands : HeaderStands
header_stands kind =
    let k : ℕ = offset_len kind in
    let mark : List ℕ = header_mark kind in
    let file : List ℕ = header_bytes kind in
    let first : number_at LittleEndian (offset_width kind) file (header_link kind) ≡ Ok 0 =
    ap (λ (z : List ℕ). number_at LittleEndian (offset_width kind) (mark
    ++ z) (length mark)) (sym (append-nil (le k 0)))
    ∙ number_mid (offset_width kind) mark [] (length mark) 0 (is_offset_width kind) refl (zero_fits kind) in
    record {
      header = exact_mid [] mark (le k 0) 0 (length mark) refl refl;
      first = first;
      directories = λ d i. absurd i;
      counts = λ d i. absurd i;
      supplied = λ h i. absurd i;
      regions = λ r i. absurd i;
      within = λ r i. absurd i;
      disjoint = λ r s i j. absurd i;
      directories_within = λ d i. absurd i;
      directories_apart = λ d e i j. absurd i;
      regions_apart = λ d r i j. absurd i;
      apart = λ q l.
          let e = only_link kind q l in
          record {
            header = omega (arith, e);
            within = omega (arith, e, length-append mark (le k 0), length-le 0 k 0);
            directories = λ d i. absurd i;
            supplied = λ h i. absurd i;
            regions = λ r i. absurd i;
            links = λ p j. inl (only_link kind p j ∙ sym e);
          };
    }
