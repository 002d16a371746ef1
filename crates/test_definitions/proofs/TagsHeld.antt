-- The bytes that the values of a directory's tags take, in a classic little-endian file.
use Rattle.std.proofs.Common.{◌≡◌, ℕ, Bool, true, false, List, [], ◌∷◌, Option, None, Some, arith, refl, sym, ◌∙◌, subst}
use Rattle.std.proofs.lemmas.Bool.{leb-true, eqb-true, and_parts}
use Rattle.std.specs.Cmp.{nat_cmp_total}
use Rattle.std.specs.FinMap.{find, from_entries, get-from_entries}
use Rattle.std.specs.Ordering.{nat_cmp}
use Rattle.std.specs.List.{list_any}
use Rattle.std.specs.Prelude.{◌==◌, ◌&&◌, ◌||◌, nat_le}
use Rattle.tiff_base.specs.declared.tags.ByteOrder.TheVariants.{LittleEndian}
use Rattle.tiff_base.specs.declared.tags.FileKind.TheVariants.{Classic}
use Rattle.tiff_base.specs.declared.tags.Tag.{Tag}
use Rattle.tiff_base.specs.Field.{Field, DirectoryRecord}
use Rattle.tiff_base.specs.FieldBytes.{field_len}
use Rattle.tiff_base.specs.SourceAndSink.{SourceRecord}
use Rattle.tiff_base.specs.Tags.{tag_number}
use Rattle.tiff_ifd.specs.Stretches.{FieldReadable, TagReadable}
use Rattle.tiff_page.specs.Checks.{page_tag_numbers}
use Rattle.tiff_page.specs.Reach.{PageReadable}

-- the values of a field are readable in a source, if there is a field
abbrev pub IsHeld : SourceRecord → Option Field → Type 0
IsHeld source None = Unit {0}
IsHeld source (Some f) = FieldReadable source Classic LittleEndian f

-- the values of a field are in its entry
abbrev pub fits : Option Field → Bool
fits None = true
fits (Some f) = nat_le (field_len f) 4

fits_held : (source : SourceRecord) (f : Option Field) → fits f ≡ true → IsHeld source f
fits_held source None e = tt
fits_held source (Some f) e =
    record { placed = λ w. absurd (omega (arith, w, leb-true (field_len f) 4 e)) }

-- the values of each of some tags, by their numbers, are in their entries, except those of the
-- offsets of strips
abbrev pub each_fits : List (ℕ × Field) → List ℕ → Bool
each_fits fields [] = true
each_fits fields (n ∷ ns) = (n == 273 || fits (find nat_cmp n fields)) && each_fits fields ns

-- a directory that is made from a list
module _ (source : SourceRecord) (fields : List (ℕ × Field)) (next : Option ℕ) where
  abbrev directory : DirectoryRecord
  directory = record { entries = from_entries fields; next = next }

  pub tag_held : (t : Tag) → IsHeld source (find nat_cmp (tag_number t) fields)
      → TagReadable source Classic LittleEndian directory t
  tag_held t h =
      record { field = λ f e. subst (IsHeld source) (sym (get-from_entries nat_cmp_total fields (tag_number t)) ∙ e) h }

  one_held : (b : Bool) (n : ℕ) → (n == 273) ≡ b → IsHeld source (find nat_cmp 273 fields)
      → (b || fits (find nat_cmp n fields)) ≡ true
      → IsHeld source (find nat_cmp n fields)
  one_held true n q offsets e =
      subst (λ k. IsHeld source (find nat_cmp k fields)) (sym (eqb-true n 273 q)) offsets
  one_held false n q offsets e = fits_held source (find nat_cmp n fields) e

  -- the values of a tag among some, of which the first are readable
  held_from : (b : Bool) (m n : ℕ) (rest : Bool) → (m == n) ≡ b
      → IsHeld source (find nat_cmp m fields)
      → (rest ≡ true → IsHeld source (find nat_cmp n fields)) → (b || rest) ≡ true
      → IsHeld source (find nat_cmp n fields)
  held_from true m n rest q first more h =
      subst (λ k. IsHeld source (find nat_cmp k fields)) (eqb-true m n q) first
  held_from false m n rest q first more h = more h

  each_held : (ns : List ℕ) (n : ℕ) → IsHeld source (find nat_cmp 273 fields)
      → each_fits fields ns ≡ true → list_any (λ m. m == n) ns ≡ true
      → IsHeld source (find nat_cmp n fields)
  each_held [] n offsets e h = absurd cc
  each_held (m ∷ ms) n offsets e h =
      let both = and_parts (m == 273 || fits (find nat_cmp m fields)) (each_fits fields ms) e in
      held_from (m == n) m n (list_any (λ k. k == n) ms) refl (one_held (m == 273) m refl offsets both.0) (each_held ms n offsets both.1) h

  pub page_held : IsHeld source (find nat_cmp 273 fields) → each_fits fields page_tag_numbers ≡ true
      → PageReadable source Classic LittleEndian directory
  page_held offsets e =
      record { each = λ t h. tag_held t (each_held page_tag_numbers (tag_number t) offsets e h) }

  -- if the field of a tag isn't readable in a source, the tag isn't either
  pub tag_unheld : (t : Tag) (f : Field) → find nat_cmp (tag_number t) fields ≡ Some f
      → (FieldReadable source Classic LittleEndian f → ⊥)
      → TagReadable source Classic LittleEndian directory t → ⊥
  tag_unheld t f e not r =
      not (r.field f (get-from_entries nat_cmp_total fields (tag_number t) ∙ e))
