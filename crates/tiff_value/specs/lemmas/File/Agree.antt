-- Two models that describe the same file agree on each directory that both contain.
use Rattle.std.proofs.Common.{zero, suc, ◌≡◌, ℕ, List, Option, Some, None, cond, refl, ap, sym, ◌∙◌, arith}
use Rattle.std.proofs.lemmas.Bool.{ne_eqb}
use Rattle.tiff_base.specs.declared.tags.FileKind.{FileKind}
use Rattle.tiff_base.specs.declared.tags.ByteOrder.TheVariants.{LittleEndian}
use Rattle.tiff_base.specs.Field.{DirectoryRecord}
use Rattle.tiff_base.specs.Directory.{link, directory_at}
use Rattle.tiff_value.specs.Model.{In, FinishedDirectory, Model, header_link, own_link, FileContains}
use Rattle.tiff_value.specs.FileLaws.{ModelsAgree}
use Rattle.tiff_base.specs.lemmas.Slices.{ok_inj}

-- the target of the link to the next directory, or 0 if there is no next one
abbrev target : Option ℕ → ℕ
target None = 0
target (Some offset) = offset

target_link : (t : ℕ) → target (link t) ≡ t
target_link zero = refl
target_link (suc t) =
    ap (λ b. target (cond b None (Some (suc t)))) (ne_eqb (suc t) 0 (λ e. omega arith))

-- the directory that a model records at an offset
abbrev told_of : FileKind → Model → FinishedDirectory → DirectoryRecord
told_of kind m d = record { entries = d.fields; next = link (m.links (own_link kind d)) }

-- two models that describe the same file record the same directory
same : (kind : FileKind) (m n : Model) (file : List ℕ) → FileContains kind file m
    → FileContains kind file n
    → (d e : FinishedDirectory) → In d m.directories → In e n.directories → d.offset ≡ e.offset
    → told_of kind m d ≡ told_of kind n e
same kind m n file s t d e in_m in_n p =
    ok_inj (told_of kind m d) (told_of kind n e)
    (sym (s.directories d in_m) ∙ ap (directory_at kind LittleEndian file) p ∙ t.directories e in_n)

pub models_agree : ModelsAgree
models_agree kind m n file s t = (
  ok_inj (m.links (header_link kind)) (n.links (header_link kind)) (sym s.first ∙ t.first),
  λ d e in_m in_n p.
      let q = same kind m n file s t d e in_m in_n p in (
        ap (λ r. r.entries) q,
        sym (target_link (m.links (own_link kind d))) ∙ ap (λ r. target r.next) q
            ∙ target_link (n.links (own_link kind e)),
      ),
)
