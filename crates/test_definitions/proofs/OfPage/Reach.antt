-- The worked examples of `Page.Reach` hold.
use Rattle.std.proofs.lemmas.Bool.{false≢true}
use Rattle.std.proofs.Common.{◌≡◌, ℕ, cond, true, List, [], ◌∷◌, Equal, None, Some, arith, refl, ap, sym}
use Rattle.std.proofs.lemmas.Bool.{and_parts, false≢true}
use Rattle.std.specs.Cmp.{nat_cmp_is}
use Rattle.std.specs.FinMap.{find}
use Rattle.std.specs.List.{list_all}
use Rattle.std.specs.Ordering.{nat_cmp, is_eq}
use Rattle.tiff_base.specs.declared.tags.ByteOrder.TheVariants.{LittleEndian}
use Rattle.tiff_base.specs.declared.tags.FileKind.TheVariants.{Classic}
use Rattle.tiff_base.specs.declared.tags.Tag.{Tag}
use Rattle.tiff_base.specs.declared.tags.Tag.TheVariants as tag
use Rattle.tiff_base.specs.declared.tags.«Type».TheVariants.{LONG}
use Rattle.tiff_base.specs.Field.{Field}
use Rattle.tiff_base.specs.Tags.{tag_number}
use Rattle.tiff_ifd.specs.Stretches.{FieldReadable}
use Rattle.tiff_page.specs.Checks.{is_page_tag}
use Rattle.test_definitions.specs.Base.FieldBytes.{of}
use Rattle.test_definitions.specs.Page.Reach as s
use Rattle.test_definitions.proofs.Stretches.{in_first}
use Rattle.test_definitions.proofs.TagsHeld.{page_held, tag_unheld}
use Rattle.tiff.proofs.OnLiterals.{tiff_on_literals}

pub pixel_needs_it : s.pixel_needs_it
unfolding tiff_on_literals
pixel_needs_it r = false≢true (r 24 (omega arith) (omega arith))

pub packed_needs_all : s.packed_needs_all
unfolding tiff_on_literals
packed_needs_all r = false≢true (r 122 (omega arith) (omega arith))

pub plane_needs_last : s.plane_needs_last
unfolding tiff_on_literals
plane_needs_last r =
    false≢true (r.chunk 0 (omega arith) 3 (omega arith) 12 (omega arith) (omega arith))

pub unit_needs_second : s.unit_needs_second
unfolding tiff_on_literals
unit_needs_second r =
    false≢true (r.chunk 1 (omega arith) 0 (omega arith) 28 (omega arith) (omega arith))

-- ---- the checks of a page

pub checks_entries : s.checks_entries
checks_entries =
    page_held (s.between 0 0) s.entry_fields None (record { placed = λ w. absurd (omega (arith, w)) }) refl

pub checks_placed : s.checks_placed
unfolding tiff_on_literals
checks_placed =
    page_held (s.between 8 20) s.placed_fields None (record { placed = λ w k l h. in_first 8 12 [] k l h }) refl

pub checks_placed_all : s.checks_placed_all
unfolding tiff_on_literals
checks_placed_all = λ r.
    tag_unheld (s.between 8 19) s.placed_fields None tag.StripOffsets (of LONG 3 s.eight) refl
    (λ f. false≢true (f.placed (omega arith) 19 (omega arith) (omega arith))) (r.each tag.StripOffsets refl)

pub checks_profile : s.checks_profile
checks_profile =
    page_held (s.between 0 0) s.profile_fields None (record { placed = λ w. absurd (omega (arith, w)) }) refl

-- three LONGs at 8 aren't readable in a source without readable bytes
longs_unheld : FieldReadable (s.between 0 0) Classic LittleEndian (of LONG 3 s.eight) → ⊥
unfolding tiff_on_literals
longs_unheld r = false≢true (r.placed (omega arith) 8 (omega arith) (omega arith))

-- a directory has the field of a tag that it has alone
alone_found : (n : ℕ) (f : Field) → find nat_cmp n ((n, f) ∷ []) ≡ Some f
alone_found n f = ap (λ r. cond (is_eq r) (Some f) None) (sym (nat_cmp_is n n Equal refl))

-- the checks read each of some tags
each_checked : (ts : List Tag) → list_all (λ t. is_page_tag (tag_number t)) ts ≡ true
    → s.AreChecked ts
each_checked [] e = tt
each_checked (t ∷ ts) e =
    let f : Field = of LONG 3 s.eight in
    let both =
    and_parts (is_page_tag (tag_number t)) (list_all (λ u. is_page_tag (tag_number u)) ts) e in (
      λ r. tag_unheld (s.between 0 0) ((tag_number t, f)
          ∷ []) None t f (alone_found (tag_number t) f) longs_unheld (r.each t both.0),
      each_checked ts both.1,
    )

pub checks_sides : s.checks_sides
checks_sides = each_checked s.side_tags refl

pub checks_samples : s.checks_samples
checks_samples = each_checked s.sample_tags refl

pub checks_chunks : s.checks_chunks
checks_chunks = each_checked s.data_tags refl

pub checks_asked : s.checks_asked
checks_asked = λ r. absurd (checks_placed_all r)

pub checks_asked_alone : s.checks_asked_alone
checks_asked_alone = λ h. false≢true (sym (h checks_placed))

pub ruleset worked = (
  pixel_needs_it,
  packed_needs_all,
  plane_needs_last,
  unit_needs_second,
  checks_entries,
  checks_placed,
  checks_placed_all,
  checks_profile,
  checks_sides,
  checks_samples,
  checks_chunks,
  checks_asked,
  checks_asked_alone,
)
