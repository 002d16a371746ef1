-- The worked examples of `Encode.Model` hold.
use Rattle.std.specs.Prelude.{refl, if◌then◌else◌, ◌==◌}
use Rattle.std.proofs.Common.{◌≡◌, ℕ, ◌+◌, ◌*◌, ◌^◌, ◌<◌, ◌≤◌, Bool, true, false, List, [], ◌∷◌, ◌++◌, None, Result, Ok, ap, sym, ◌∙◌, subst, inl, inr, arith, lit<}
use Rattle.std.specs.Prelude.{map, slice_index}
use Rattle.std.specs.FinMap.{FinMap, entries, from_entries}
use Rattle.std.specs.List.{flat_map}
use Rattle.std.specs.Ordering.{nat_cmp}
use Rattle.tiff_base.specs.declared.error.TiffError.{TiffError}
use Rattle.tiff_base.specs.declared.tags.FileKind.{FileKind}
use Rattle.tiff_base.specs.declared.tags.FileKind.TheVariants.{Classic}
use Rattle.tiff_base.specs.declared.tags.ByteOrder.TheVariants.{LittleEndian}
use Rattle.tiff_base.specs.Field.{Field, DirectoryRecord}
use Rattle.tiff_base.specs.Number.{le}
use Rattle.tiff_base.specs.Header.{Header, header_at}
use Rattle.tiff_base.specs.Directory.{link_offset, link, directory_at}
use Rattle.tiff_page.specs.Page.{PageRecord}
use Rattle.tiff_value.specs.FileBytes.{entry_bytes}
use Rattle.tiff_value.specs.Model.{In, FinishedDirectory, Model, own_link, whole_len, FileContains, header_model, with_link, with_directory}
use Rattle.tiff_value.specs.WriteOps.{Listed, standing_fields, model_after}
use Rattle.tiff_value.specs.FileLaws.{IsListable, AreListable}
use Rattle.tiff_encode.specs.Shows.{Image, Shows, ShowsFirst, gray_image}
use Rattle.tiff_value.specs.lemmas.File.Header as its_header
use Rattle.tiff_base.specs.lemmas.Slices.{ok_inj}
use Rattle.tiff_value.specs.lemmas.File.FileAndModel.{standing_entry, entries_standing}
use Rattle.tiff_value.specs.lemmas.File.WriteOps.{ops_stand}
use Rattle.test_definitions.specs.OneValue.{long_field, one_to_one}
use Rattle.test_definitions.proofs.Maps.{puts, entries_puts, len_puts}
use Rattle.test_definitions.specs.Encode.Calls.{header}
use Rattle.test_definitions.proofs.OnePixel.{gray_shown, shown_alike, sample_alike, page_alike}
use Rattle.test_definitions.specs.Encode.Model as s
use Rattle.test_definitions.specs.Files.{gray_file}
use Rattle.tiff.proofs.OnLiterals.{tiff_on_literals}

pub unequal : (k l : ℕ) → k < l → k ≡ l → ⊥
unequal k l h e = omega arith

whole_8 : s.whole_18
whole_8 = ap (λ n. 2 + 12 * n + 4) (len_puts ((256, long_field 5) ∷ []))

not_over : s.overlaid
not_over file t =
    elim (t.regions_apart s.directory_8 (record { offset = 9; bytes = 7 ∷ [] }) (inl refl) (inl refl)) as (λ _. ⊥) [
      | inl l ↦ (let a : 8 + whole_len Classic s.directory_8 ≤ 9 = l in omega (arith, whole_8))
      | inr l ↦ (let a : 10 ≤ 8 = l in omega arith)
    ]

-- the fields of a map that is made from a list, as the file contains them
pub stood_of : (es : List (ℕ × Field))
    → standing_fields Classic (from_entries es)
    ≡ from_entries (map (standing_entry Classic) (puts es))
stood_of es = ap (λ given. from_entries (map (standing_entry Classic) given)) (entries_puts es)

-- the hand-made fields: their directory bytes, and the fields as the file contains them
wide_entries : entries s.wide_fields ≡ (256, s.wide_field) ∷ []
wide_entries = entries_puts ((256, s.wide_field) ∷ [])

listed : s.wide_listed
unfolding tiff_on_literals
listed =
    λ i. header ++ (le 2 (len_puts ((256, s.wide_field) ∷ []) i)
    ++ (flat_map (entry_bytes Classic) (wide_entries i) ++ le 4 0))

wide_one : (e : ℕ × Field) → In e ((256, s.wide_field) ∷ []) → IsListable Classic e.0 e.1
wide_one e (inl p) =
    let P : ℕ × Field → Type 0 = λ x. IsListable Classic x.0 x.1 in
    subst P (sym p) (record { tag_fits = lit< tt; count = lit< tt; whole = refl })
wide_one e (inr z) = absurd z

wide_listable : AreListable Classic s.wide_fields
wide_listable =
    let P : List (ℕ × Field) → Type 0 =
    λ es. (e : ℕ × Field) → In e es → IsListable Classic e.0 e.1 in
    record {
      each = subst P (sym wide_entries) wide_one;
      few = subst (λ n. n < 256 ^ 2) (sym (len_puts ((256, s.wide_field) ∷ []))) (lit< tt);
    }

stands : s.wide_stands
stands =
    let m : Model = model_after Classic header (header_model Classic) (Listed s.wide_fields ∷ []) in
    subst (λ file. FileContains Classic file m) listed
    (ops_stand Classic header (header_model Classic) (Listed s.wide_fields
    ∷ []) (its_header.header_stands Classic) (wide_listable, tt))

-- the record of the directory at 8 in a model
abbrev wide_by : FinMap nat_cmp Field → DirectoryRecord
wide_by fields = record { entries = fields; next = None }

-- the link of an added directory is 0
either : (b : Bool) (n : ℕ) → (if b then n else n) ≡ n
either true n = refl
either false n = refl

its_directory : (fields : FinMap nat_cmp Field)
    → FileContains Classic s.wide_file (with_directory Classic (header_model Classic) (record { offset = 8; fields = fields }))
    → directory_at Classic LittleEndian s.wide_file 8 ≡ Ok (wide_by fields)
its_directory fields t =
    let d : FinishedDirectory = record { offset = 8; fields = fields } in
    t.directories d (inl refl)
    ∙ ap (λ n. let r : Result DirectoryRecord TiffError =
    Ok (record { entries = fields; next = link n }) in r) (either (own_link Classic d == own_link Classic d) 0)

-- the fifth byte of the first field's value field
abbrev fifth : List (ℕ × Field) → ℕ
fifth [] = 0
fifth (e ∷ es) = slice_index e.1.value 4

not_given : standing_fields Classic s.wide_fields ≡ s.wide_fields → ⊥
not_given e = unequal 0 5 (lit< tt)
    (sym (ap fifth (entries_standing Classic s.wide_fields
    ∙ ap (map (standing_entry Classic)) wide_entries))
    ∙ ap (λ m. fifth (entries m)) e ∙ ap fifth wide_entries)

-- the header of `gray_file` gives the offset of its first page
gray_header : header_at gray_file ≡ Ok (record { order = LittleEndian; kind = Classic; first = 25 })
unfolding tiff_on_literals
gray_header = refl

header_is : (kind : FileKind) (i : Image) (t : ShowsFirst kind gray_file i)
    → (let told : Header = record { order = LittleEndian; kind = kind; first = t.offset } in
    let read : Header = record { order = LittleEndian; kind = Classic; first = 25 } in told ≡ read)
header_is kind i t = ok_inj _ _ (sym t.first ∙ gray_header)

pub shown_at_25 : (i : Image) → ShowsFirst Classic gray_file i → Shows Classic gray_file 25 i
shown_at_25 i t =
    subst (λ offset. Shows Classic gray_file offset i) (ap (λ (h : Header). h.first) (header_is Classic i t)) t.shows

pub header_stands : s.header_stands
header_stands = its_header.header_stands Classic

pub past_end : s.past_end
past_end =
    λ s. let l = s.within (record { offset = 7; bytes = 0 ∷ 0 ∷ [] }) (inl refl) in omega arith

pub own_22 : s.own_22
own_22 = ap (λ n. link_offset Classic 8 n) (len_puts ((256, long_field 5) ∷ []))

pub link_22 : s.link_22
link_22 = inr (s.directory_8, (inl refl, sym own_22))

pub whole_18 : s.whole_18
whole_18 = whole_8

pub overlaid : s.overlaid
overlaid = not_over

pub new_link : s.new_link
new_link = ap (λ n. if 22 == n then 0 else 5) own_22

pub shrinks : s.shrinks
shrinks = λ g. g.regions s.one_region (inl refl)

pub gray_shows : s.gray_shows
gray_shows =
    record { offset = 25; first = gray_header; shows = shown_alike gray_file gray_shown (gray_image 1 1 (7 ∷ [])) refl refl }

pub other_sample : s.other_sample
other_sample = λ t.
    let i : Image = gray_image 1 1 (8 ∷ []) in
    unequal 7 8 (lit< tt) (sym (sample_alike gray_file gray_shown i (shown_at_25 i t)))

pub other_width : s.other_width
other_width =
    λ t. unequal 1 2 (lit< tt) (ap (λ (p : PageRecord). p.width) (page_alike gray_file gray_shown (gray_image 2 1 (7 ∷ 7 ∷ [])) t))

pub model_finished : s.model_finished
model_finished =
    ap (λ fields. with_link Classic (with_directory Classic (header_model Classic) (record { offset = 8; fields = fields })) 4 8)
    (stood_of ((256, long_field 5) ∷ []))

pub wide_listed : s.wide_listed
wide_listed = listed

pub wide_stands : s.wide_stands
wide_stands = stands

pub wide_as_given : s.wide_as_given
wide_as_given =
    λ t. not_given (ap (λ d. d.entries) (ok_inj (wide_by (standing_fields Classic s.wide_fields)) (wide_by s.wide_fields)
    (sym (its_directory (standing_fields Classic s.wide_fields) stands) ∙ its_directory s.wide_fields t)))

pub fits_appended : s.fits_appended
unfolding tiff_on_literals
fits_appended = (
  tt,
  (
    inr (
      record { offset = 8; bytes = one_to_one },
      (
        inl refl,
        record {
          offset = refl;
          whole = refl;
          long = lit< tt;
          short = lit< tt;
          bytes = refl;
        },
      ),
    ),
    tt,
  ),
)

pub fits_listed : s.fits_listed
fits_listed = (wide_listable, ((inl refl, lit< tt), tt))

pub ruleset worked =
    (past_end, own_22, link_22, whole_18, overlaid, new_link, shrinks, wide_listed, wide_stands, wide_as_given, fits_appended, fits_listed, model_finished)
