-- The image of one gray pixel: what its calls do, what the file contains then, and what it shows.
use Rattle.std.specs.Prelude.{refl, get_or}
use Rattle.std.specs.Ordering.{nat_cmp}
use Rattle.std.specs.FinMap.{from_entries}
use Rattle.std.proofs.Common.{◌≡◌, ℕ, ◌<◌, ◌^◌, zero, suc, true, false, List, [], ◌∷◌, ◌++◌, length, Some, Ok, ap, sym, ◌∙◌, subst, inl, inr, arith, lit<, lit≤}
use Rattle.tiff_base.specs.declared.color.ColorType.TheVariants.{Gray}
use Rattle.tiff_base.specs.declared.tags.FileKind.TheVariants.{Classic}
use Rattle.tiff_base.specs.Color.{num_samples}
use Rattle.tiff_base.specs.Field.{Field}
use Rattle.tiff_base.specs.Number.{number, le}
use Rattle.tiff_base.specs.SourceAndSink as bytes
use Rattle.tiff_value.specs.declared.encoder.colortype.ColorTypeName.TheVariants as name
use Rattle.tiff_value.specs.ColorTypes.{color_type, inner_type}
use Rattle.tiff_value.specs.Data.{data_of}
use Rattle.tiff_value.specs.Differences.{differences}
use Rattle.tiff_page.specs.Layout.{color_of}
use Rattle.tiff_page.specs.Page.{PageRecord}
use Rattle.tiff_page.specs.Rect.{rect}
use Rattle.tiff_value.specs.Model.{In, SuppliedField, Model, FileContains, Grows, header_model}
use Rattle.tiff_value.specs.FileLaws.{AreListable, OpsFit, IsListable}
use Rattle.tiff_value.specs.WriteOps.{WriteOp, Appended, Supplied, Listed, Linked, bytes_after, model_after}
use Rattle.tiff_encode.specs.Shows.{Image, shown_columns, shown_at, Shows}
use Rattle.tiff_encode.specs.Machine.{FileState}
use Rattle.tiff_encode.specs.Chunks.{is_left, next_chunk_sample_count, sample_in}
use Rattle.tiff_encode.specs.Causes.{begin_cause, new_image_cause, image_cause, write_strip_cause, write_tag_cause}
use Rattle.tiff_encode.specs.Calls.{finish, finish_image, first_tags, image_directory, last_tags, new_image, new_directory, write_entry, write_strip, write_tag}
use Rattle.tiff_encode.specs.Held.{image_with}
use Rattle.tiff_encode.specs.Open.{RecordsImage, HoldsEnded}
use Rattle.tiff_encode.specs.Stored.{unpacked_chunk}
use Rattle.tiff_value.specs.lemmas.File.WriteOps.{ops_stand}
use Rattle.tiff_value.specs.lemmas.File.Header.{header_stands}
use Rattle.tiff_encode.proofs.Shown.Images.{images_show_by}
use Rattle.tiff_encode.proofs.Open.Begun.{begins_open}
use Rattle.tiff_encode.proofs.Open.Chunks.{chunks_keep_open}
use Rattle.tiff_encode.proofs.Open.Ends.{ends_held, grown_ended, ended_shown_by}
use Rattle.tiff_encode.proofs.PageTold.Page.{page_told}
use Rattle.tiff_base.specs.lemmas.Slices.{ok_inj}
use Rattle.test_definitions.specs.Encode.Calls.{header, with_fields}
use Rattle.test_definitions.specs.Encode.Causes.{new_file, gray}
use Rattle.test_definitions.specs.Files.{gray_file}
use Rattle.test_definitions.specs.Encode.Chunks.{all_fields, new_pixel, pixel_in_file, resolutions}
use Rattle.test_definitions.specs.OneValue.{short_field, long_field, one_to_one}
use Rattle.test_definitions.specs.Encode.ImageJobs as tasks
use Rattle.test_definitions.proofs.OfEncode.Calls.{finish_told, finish_told_by}
use Rattle.test_definitions.proofs.OfEncode.Chunks as images
use Rattle.test_definitions.proofs.Maps.{puts, entries_puts, len_puts}
use Rattle.test_definitions.proofs.OfEncode.FileBytes.{directory_by}

-- a supplied field of one number
abbrev pub supplied_short : ℕ → SuppliedField
supplied_short n = record { field = short_field n; bytes = le 2 n }

abbrev pub supplied_long : ℕ → SuppliedField
supplied_long n = record { field = long_field n; bytes = le 4 n }

-- ---- what the image does

-- what the image writes after its resolutions, and the file then
abbrev pub image_ops : List WriteOp
image_ops =
    Appended (7 ∷ []) ∷ Supplied (supplied_short 8) ∷ Supplied (supplied_short 1)
    ∷ Supplied (supplied_long 24) ∷ Supplied (supplied_long 1)
    ∷ Listed (from_entries all_fields) ∷ Linked 4 25 ∷ []

abbrev pub image_file : FileState
image_file = record (new_file Classic) { bytes = gray_file; chain = 195 }

abbrev behind_strip : FileState
behind_strip = record (new_file Classic) { bytes = header ++ (resolutions ++ (7 ∷ [])) }

pub finishes : finish (with_fields (new_directory (Some 4) true) all_fields) behind_strip
    ≡ finish_told_by behind_strip (with_fields (new_directory (Some 4) true) all_fields) 14 (puts all_fields)
finishes =
    finish_told behind_strip (with_fields (new_directory (Some 4) true) all_fields) 14
    (puts all_fields) (len_puts all_fields) (entries_puts all_fields)

-- ---- what the file contains

-- each of the fields can be written in a directory
abbrev EachListable : List (ℕ × Field) → Type 0
EachListable [] = Unit {0}
EachListable (e ∷ es) = IsListable Classic e.0 e.1 × EachListable es

each_of : (es : List (ℕ × Field)) → EachListable es → (e : ℕ × Field) → In e es
    → IsListable Classic e.0 e.1
each_of [] t e h = absurd h
each_of (x ∷ es) t e (inl p) =
    let P : ℕ × Field → Type 0 = λ y. IsListable Classic y.0 y.1 in
    subst P (sym p) t.0
each_of (x ∷ es) t e (inr h) = each_of es t.1 e h

-- the fields of a map that is made from a list can be written
pub listable : (es : List (ℕ × Field)) → EachListable (puts es) → length (puts es) < 256 ^ 2
    → AreListable Classic (from_entries es)
listable es t l =
    let P : List (ℕ × Field) → Type 0 =
    λ xs. (e : ℕ × Field) → In e xs → IsListable Classic e.0 e.1 in
    record {
      each = subst P (sym (entries_puts es)) (each_of (puts es) t);
      few = subst (λ n. n < 256 ^ 2) (sym (len_puts es)) l;
    }

-- the fields of the image can be written
all_listable : AreListable Classic (from_entries {R = nat_cmp} all_fields)
all_listable =
    let e256 : EachListable (puts all_fields) = (
      record { tag_fits = lit< tt; count = lit< tt; whole = refl },
      (
        record { tag_fits = lit< tt; count = lit< tt; whole = refl },
        (
          record { tag_fits = lit< tt; count = lit< tt; whole = refl },
          (
            record { tag_fits = lit< tt; count = lit< tt; whole = refl },
            (
              record { tag_fits = lit< tt; count = lit< tt; whole = refl },
              (
                record { tag_fits = lit< tt; count = lit< tt; whole = refl },
                (
                  record { tag_fits = lit< tt; count = lit< tt; whole = refl },
                  (
                    record { tag_fits = lit< tt; count = lit< tt; whole = refl },
                    (
                      record { tag_fits = lit< tt; count = lit< tt; whole = refl },
                      (
                        record { tag_fits = lit< tt; count = lit< tt; whole = refl },
                        (
                          record { tag_fits = lit< tt; count = lit< tt; whole = refl },
                          (
                            record { tag_fits = lit< tt; count = lit< tt; whole = refl },
                            (
                              record { tag_fits = lit< tt; count = lit< tt; whole = refl },
                              (record { tag_fits = lit< tt; count = lit< tt; whole = refl }, tt),
                            ),
                          ),
                        ),
                      ),
                    ),
                  ),
                ),
              ),
            ),
          ),
        ),
      ),
    ) in listable all_fields e256 (lit< tt)

-- the model after the image
abbrev pub image_model : Model
image_model = model_after Classic (header ++ resolutions) tasks.after_begin.model image_ops

-- the writes of the resolutions fit
begun_fits : OpsFit Classic header (header_model Classic) (new_image gray 1 1 1 (new_file Classic)).ops
unfolding new_image new_image_cause image_cause image_directory begin_cause first_tags write_tag write_entry write_tag_cause data_of number
begun_fits = (
  tt,
  (
    inl (record { short = lit≤ tt; bytes = refl }),
    (
      inl (record { short = lit≤ tt; bytes = refl }),
      (
        inl (record { short = lit≤ tt; bytes = refl }),
        (
          inl (record { short = lit≤ tt; bytes = refl }),
          (
            inl (record { short = lit≤ tt; bytes = refl }),
            (
              inl (record { short = lit≤ tt; bytes = refl }),
              (
                inl (record { short = lit≤ tt; bytes = refl }),
                (
                  tt,
                  (
                    inr (record { offset = 8; bytes = one_to_one }, (inl refl, record { offset = refl; whole = refl; long = lit< tt; short = lit< tt; bytes = refl })),
                    (
                      tt,
                      (
                        inr (record { offset = 16; bytes = one_to_one }, (inl refl, record { offset = refl; whole = refl; long = lit< tt; short = lit< tt; bytes = refl })),
                        (
                          inl (record { short = lit≤ tt; bytes = refl }),
                          tt,
                        ),
                      ),
                    ),
                  ),
                ),
              ),
            ),
          ),
        ),
      ),
    ),
  ),
)

pub begun_stands : FileContains Classic (header ++ resolutions) tasks.after_begin.model
unfolding new_image new_image_cause image_cause image_directory begin_cause first_tags write_tag write_entry write_tag_cause data_of
begun_stands =
    ops_stand Classic header (header_model Classic) (new_image gray 1 1 1 (new_file Classic)).ops
    (header_stands Classic) begun_fits

-- the writes of the image after the resolutions fit
image_fits : OpsFit Classic (header ++ resolutions) tasks.after_begin.model image_ops
image_fits = (
  tt,
  (
    inl (record { short = lit≤ tt; bytes = refl }),
    (
      inl (record { short = lit≤ tt; bytes = refl }),
      (
        inl (record { short = lit≤ tt; bytes = refl }),
        (
          inl (record { short = lit≤ tt; bytes = refl }),
          (all_listable, ((inl refl, lit< tt), tt)),
        ),
      ),
    ),
  ),
)

image_bytes : bytes_after Classic (header ++ resolutions) image_ops ≡ gray_file
image_bytes =
    ap (λ d. bytes.put ((header ++ resolutions) ++ (7 ∷ [])
    ++ d) 4 (le 4 25)) (directory_by Classic all_fields)

pub image_stands : FileContains Classic gray_file image_model
image_stands =
    subst (λ file. FileContains Classic file image_model) image_bytes
    (ops_stand Classic (header ++ resolutions) tasks.after_begin.model image_ops begun_stands image_fits)

-- ---- what the model holds

-- the samples of the image
abbrev sevens : List (List ℕ)
sevens = (7 ∷ []) ∷ []

octets : (k : ℕ) → get_or (7 ∷ []) k 0 < 256
octets zero = lit< tt
octets (suc k) = lit< tt

-- the model holds the open image after its resolutions
pub begin_held : RecordsImage Classic tasks.after_begin.model new_pixel []
unfolding color_type inner_type
begin_held =
    begins_open (new_file Classic) (header_model Classic) name.Gray8 1 1 new_pixel (lit< tt)
    (lit< tt) images.gray_begun.0

-- the image after its strip
strip_is : (write_strip new_pixel 1 (7 ∷ []) tasks.after_begin.file).answer ≡ Ok pixel_in_file
unfolding write_strip write_strip_cause next_chunk_sample_count rect
strip_is = refl

strip_held : RecordsImage Classic tasks.after_strip.model pixel_in_file sevens
unfolding write_strip write_strip_cause next_chunk_sample_count rect unpacked_chunk differences
strip_held =
    (chunks_keep_open tasks.after_begin.file tasks.after_begin.model new_pixel pixel_in_file [] (7
    ∷ []) (7 ∷ []) begin_held octets (lit< tt) refl (lit< tt) (lit< tt)).1
    strip_is

-- no chunk is left at the image's end
none_left : is_left pixel_in_file ≡ false
none_left = refl

pub end_held : HoldsEnded Classic tasks.after_end.model pixel_in_file sevens 25
end_held =
    ends_held tasks.after_strip.file tasks.after_strip.model pixel_in_file sevens tasks.page_offset strip_held none_left images.pixel_finished.0

end_is : tasks.after_end.model ≡ image_model
unfolding finish_image last_tags write_tag write_entry write_tag_cause data_of
end_is =
    ap (λ t. model_after Classic tasks.after_strip.file.bytes tasks.after_strip.model
    (Supplied (supplied_short 8) ∷ Supplied (supplied_short 1) ∷ Supplied (supplied_long 24) ∷ Supplied (supplied_long 1) ∷ t.ops)) finishes

image_held : HoldsEnded Classic image_model pixel_in_file sevens 25
image_held = subst (λ m. HoldsEnded Classic m pixel_in_file sevens 25) end_is end_held

-- ---- what the file shows

-- a file that contains the image's model shows the image, even if it grew since
abbrev pub pixel_image : Image
pixel_image = image_with pixel_in_file sevens

pub pixel_shown : (file : List ℕ) (m : Model) → Grows image_model m → FileContains Classic file m
    → Shows Classic file 25 pixel_image
pixel_shown file m g t =
    ended_shown_by (images_show_by page_told) Classic file m pixel_in_file sevens 25 t
    (grown_ended Classic image_model m pixel_in_file sevens 25 g image_held)

-- a page without the places of its chunks
abbrev pub bare : PageRecord → PageRecord
bare page = record page { offsets = []; byte_counts = [] }

is_seven : pixel_image.sample_at 0 0 0 ≡ 7
unfolding sample_in
is_seven = refl

module _ (file : List ℕ) (t : Shows Classic file 25 pixel_image) where
  -- the page of the image, and its color
  page_is : record pixel_image.page { offsets = t.page.offsets; byte_counts = t.page.byte_counts }
      ≡ t.page
  page_is = sym t.is_image

  color_is : Gray 8 ≡ t.color
  unfolding color_of
  color_is = ok_inj (Gray 8) t.color (ap color_of page_is ∙ t.is_color)

  -- the page has one column
  one_column : 1 ≡ shown_columns t.page t.color
  one_column = λ k. shown_columns (page_is k) (color_is k)

  -- each image of the page of `pixel_image` is shown if its first sample is 7
  pub shown_alike : (i : Image) → bare pixel_image.page ≡ bare i.page → i.sample_at 0 0 0 ≡ 7
      → Shows Classic file 25 i
  shown_alike i p q = record {
    page = t.page;
    is_page = t.is_page;
    is_image =
        let placed : PageRecord → PageRecord =
        λ page. record page { offsets = t.page.offsets; byte_counts = t.page.byte_counts } in
        t.is_image ∙ ap placed p;
    color = t.color;
    is_color = t.is_color;
    whole = t.whole;
    shows = λ x y sample a b c.
        let column : 0 ≡ x =
        (let d : x < 1 = subst (λ n. x < n) (sym one_column) a in omega arith) in
        let row : 0 ≡ y =
        (let d : y < 1 = subst (λ n. y < n) (sym (ap (λ page. page.height) page_is)) b in omega arith) in
        let one : 0 ≡ sample =
        (let d : sample < 1 = subst (λ k. sample < num_samples k) (sym color_is) c in omega arith) in
        let Q : ℕ → ℕ → ℕ → Type 0 =
        λ x y sample. shown_at file t.page t.color x y sample ≡ i.sample_at x y sample in
        let first =
        t.shows 0 0 0 (subst (λ n. n < shown_columns t.page t.color) (sym column) a)
        (subst (λ n. n < t.page.height) (sym row) b)
        (subst (λ n. n < num_samples t.color) (sym one) c) in
        subst (λ x. Q x y sample) column (subst (λ y. Q 0 y sample) row (subst (λ n. Q 0 0 n) one (first ∙ is_seven ∙ sym q)));
  }

  -- an image with another page isn't shown
  pub page_alike : (i : Image) → Shows Classic file 25 i → bare pixel_image.page ≡ bare i.page
  page_alike i u =
      ap bare (page_is ∙ ok_inj t.page u.page (sym t.is_page ∙ u.is_page) ∙ u.is_image)

  pub sample_alike : (i : Image) → Shows Classic file 25 i → i.sample_at 0 0 0 ≡ 7
  sample_alike i u =
      let same : t.page ≡ u.page = ok_inj t.page u.page (sym t.is_page ∙ u.is_page) in
      let wide : 0 < shown_columns t.page t.color = subst (λ n. 0 < n) one_column (lit< tt) in
      let high : 0 < t.page.height =
      subst (λ n. 0 < n) (ap (λ page. page.height) page_is) (lit< tt) in
      let some : 0 < num_samples t.color = subst (λ k. 0 < num_samples k) color_is (lit< tt) in
      let hue : t.color ≡ u.color =
      ok_inj t.color u.color (sym t.is_color ∙ ap color_of same ∙ u.is_color) in
      sym (u.shows 0 0 0 (subst (λ k. 0 < shown_columns u.page k) hue (subst (λ page. 0 < shown_columns page t.color) same wide)) (subst (λ page. 0 < page.height) same high) (subst (λ k. 0 < num_samples k) hue some))
      ∙ (λ k. shown_at file (sym same k) (sym hue k) 0 0 0) ∙ t.shows 0 0 0 wide high some
      ∙ is_seven

-- `gray_file` shows the image
pub gray_shown : Shows Classic gray_file 25 pixel_image
gray_shown =
    pixel_shown gray_file image_model (record { directories = λ d h. h; supplied = λ x h. h; regions = λ r h. h }) image_stands
