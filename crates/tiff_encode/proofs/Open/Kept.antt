-- What is held of an open image if a call changes one part of it.
use Rattle.std.proofs.Common.{◌≡◌, ℕ, ◌+◌, ◌^◌, ◌<◌, true, false, List, [], ◌∷◌, length, Option, None, Ok, refl, subst}
use Rattle.std.specs.List.{list_any}
use Rattle.std.specs.FinMap.{insert}
use Rattle.tiff_base.specs.lemmas.Common.{neither}
use Rattle.tiff_base.specs.declared.color.ChunkType.TheVariants.{Strip}
use Rattle.tiff_base.specs.declared.error.TiffError.{TiffError}
use Rattle.tiff_base.specs.declared.tags.ExtraSamples.{ExtraSamples}
use Rattle.tiff_base.specs.declared.tags.FileKind.{FileKind}
use Rattle.tiff_base.specs.declared.tags.Tag.{Tag}
use Rattle.tiff_base.specs.declared.tags.Tag.TheVariants as tag
use Rattle.tiff_base.specs.Field.{Field}
use Rattle.tiff_base.specs.Tags.{tag_number}
use Rattle.tiff_value.specs.ColorType.{is_packed}
use Rattle.tiff_value.specs.Data.{Scalars, rationals, units}
use Rattle.tiff_page.specs.Checks.{is_page_tag}
use Rattle.tiff_value.specs.Model.{Model}
use Rattle.tiff_encode.specs.Machine.{FileState, OpenDirectory, ChunkLayout, Chunk, OpenImage, WriteCall, gives, ◌>>=◌}
use Rattle.tiff_encode.specs.Drawn.{IsForm}
use Rattle.tiff_encode.specs.Causes.{resolution_cause, one_resolution_cause, resolution_unit_cause}
use Rattle.tiff_encode.specs.Calls.{write_tag, write_tag_buf, write_tags, extend_from, with_directory_of, resolution_tags, resolution, x_resolution, y_resolution, resolution_unit}
use Rattle.tiff_encode.specs.GivenValues as given_values
use Rattle.tiff_encode.specs.Held.{Given, HoldsValues, ExtraGiven, value_in, AreGiven, EachGiven, place_tags}
use Rattle.tiff_encode.specs.Open.{open_tags, TellsOpen, IsOpen, HoldsChunks, RecordsImage, model_by, KeepsOpen, TagsKeepOpen, FieldsKeepOpen, ResolutionsKeepOpen}
use Rattle.tiff_base.specs.lemmas.Slices.{ok_inj}
use Rattle.tiff_value.specs.lemmas.File.WriteOps.{ops_grow}
use Rattle.tiff_encode.proofs.Given.{IsLocal, given_changed}
use Rattle.tiff_encode.proofs.Open.Held.{chunks_grown, chunks_moved, other_held}
use Rattle.tiff_encode.proofs.Moving.{grows_here}
use Rattle.tiff_encode.proofs.Image.Table.{Row, written, tagged}
use Rattle.tiff_encode.proofs.Open.Tags.{both_held, caused_held, tags_adding, other_tag_held, others_held}

-- ---- one part

-- the tags describe an image whose values a call changes
pub tells_changed : (change : Given → Given) → IsLocal change → (i next : OpenImage) (given : Given)
    → TellsOpen i given
    → (let later : Given = change given in
    ExtraGiven next.extra (later (tag_number tag.ExtraSamples))
    → AreGiven (open_tags next (later (tag_number tag.ExtraSamples)))
    (change (value_in (open_tags i (given (tag_number tag.ExtraSamples)))))
    → EachGiven (place_tags next None None) later → TellsOpen next later)
tells_changed change l i next given t e s c = record {
  extra = e;
  pixels = given_changed change l (open_tags i (given (tag_number tag.ExtraSamples)))
      (open_tags next (change given (tag_number tag.ExtraSamples))) given t.pixels s;
  chunks = c;
}

-- an image with another directory, other extra samples, another layout and other chunks
module _ (i : OpenImage) (d : OpenDirectory) (extra : List ExtraSamples) (form : ChunkLayout)
    (chunks : List Chunk) where
  abbrev next_image : OpenImage
  next_image = record i { directory = d; extra = extra; form = form; chunks = chunks }

  -- that image is open
  pub open_with : IsOpen i → length i.color.bits + length extra < 2 ^ 16 → IsForm i.width form
      → (is_packed i.color ≡ true → (form.chunk_type ≡ Strip) × (extra ≡ [])) → IsOpen next_image
  open_with s few f plain = record {
    name = s.name;
    color = s.color;
    size = s.size;
    wide = s.wide;
    high = s.high;
    few = few;
    predicted_by = s.predicted_by;
    form = f;
    pixels = record {
      some = s.pixels.some;
      columns = s.pixels.columns;
      plain = λ p. ((plain p).0, ((plain p).1, (s.pixels.plain p).1.1));
    };
  }

-- the tags of an image describe it with another directory and other chunks
pub tells_kept : (i : OpenImage) (d : OpenDirectory) (chunks : List Chunk) (given : Given)
    → TellsOpen i given
    → TellsOpen (record i { directory = d; chunks = chunks }) given
tells_kept i d chunks given t = record { extra = t.extra; pixels = t.pixels; chunks = t.chunks }

-- an image stays open with another directory and other chunks
pub open_kept : (i : OpenImage) (d : OpenDirectory) (chunks : List Chunk) → IsOpen i
    → IsOpen (record i { directory = d; chunks = chunks })
open_kept i d chunks s =
    open_with i d i.extra i.form chunks s s.few s.form (λ p. let t = s.pixels.plain p in
    (t.0, t.1.0))

-- an image with another directory is held
pub directory_kept : (kind : FileKind) (m n : Model) (i : OpenImage) (d : OpenDirectory)
    (samples : List (List ℕ))
    (h : RecordsImage kind m i samples) → HoldsValues n d.fields h.given
    → HoldsChunks kind n i samples
    → RecordsImage kind n (with_directory_of i d) samples
directory_kept kind m n i d samples h o c = record {
  given = h.given;
  holds = o;
  tells = tells_kept i d i.chunks h.given h.tells;
  open_so = open_kept i d i.chunks h.open_so;
  chunks = chunks_moved kind n n i d samples (grows_here n) c;
}

-- ---- tags that a page isn't read by

pub tags_keep_open : TagsKeepOpen
tags_keep_open file m i samples t d h q = (
  λ value a.
      let call : WriteCall OpenDirectory = write_tag i.directory t value in
      let n : Model = model_by file m (call file) in
      directory_kept file.kind m n i d samples h (other_tag_held i.directory t (given_values.Given value) file m h.given d q h.holds a)
      (chunks_grown file.kind m n i samples (ops_grow file.kind file.bytes m (call file).ops) h.chunks),
  λ b a.
      let call : WriteCall OpenDirectory = write_tag_buf i.directory t b in
      let n : Model = model_by file m (call file) in
      directory_kept file.kind m n i d samples h (other_tag_held i.directory t (given_values.Lent b) file m h.given d q h.holds a)
      (chunks_grown file.kind m n i samples (ops_grow file.kind file.bytes m (call file).ops) h.chunks),
)

-- fields of tags that a page isn't read by
extended_held : (m : Model) (given : Given) (d : OpenDirectory) (fields : List (ℕ × Field))
    → list_any (λ entry. is_page_tag entry.0) fields ≡ false → HoldsValues m d.fields given
    → HoldsValues m (extend_from d fields).fields given
unfolding extend_from
extended_held m given d [] q o = o
extended_held m given d (f ∷ fields) q o =
    let each = neither (is_page_tag f.0) (list_any (λ entry. is_page_tag entry.0) fields) q in
    extended_held m given (record d { fields = insert d.fields f.0 f.1 }) fields each.1
    (other_held m d.fields given f.0 f.1 each.0 o)

pub fields_keep_open : FieldsKeepOpen
fields_keep_open kind m i samples fields h q =
    directory_kept kind m m i (extend_from i.directory fields) samples h
    (extended_held m h.given i.directory fields q h.holds) h.chunks

-- ---- rows of the table

-- what is held of an image after a call as a row says
pub row_held : (w : Row) (file : FileState) (m : Model) (i next : OpenImage)
    (samples : List (List ℕ)) → RecordsImage file.kind m i samples
    → (written w i file).answer ≡ Ok next
    → ((d : OpenDirectory) → w.cause i file ≡ None
    → (write_tags i.directory w.tags file).answer ≡ Ok d
    → HoldsChunks file.kind (model_by file m (write_tags i.directory w.tags file)) i samples
    → RecordsImage file.kind (model_by file m (write_tags i.directory w.tags file)) (w.image i d) samples)
    → RecordsImage file.kind (model_by file m (written w i file)) next samples
row_held w file m i next samples h a f =
    let P : Model → Type 0 = λ n. RecordsImage file.kind n next samples in
    let call : WriteCall OpenDirectory = write_tags i.directory w.tags in
    let rest : OpenDirectory → WriteCall OpenImage = λ d. gives (w.image i d) in
    let n : Model = model_by file m (call file) in
    caused_held (w.cause i file) (call >>= rest) file m P next a
    (λ c b. both_held call rest file m P next (tags_adding i.directory w.tags file) b
    (λ d x y. subst (λ j. RecordsImage file.kind n j samples) (ok_inj (w.image i d) next y)
    (f d c x (chunks_grown file.kind m n i samples (ops_grow file.kind file.bytes m (call file).ops) h.chunks))))

-- some more tags that a page isn't read by
pub with_tags_kept : (cause : FileState → Option TiffError) (values : List (Tag × Scalars))
    → list_any (λ v. is_page_tag (tag_number v.0)) values ≡ false
    → KeepsOpen (written (tagged cause values))
with_tags_kept cause values q file m i next samples h a =
    row_held (tagged cause values) file m i next samples h a
    (λ d c x g. directory_kept file.kind m (model_by file m (write_tags i.directory values file)) i d samples h
    (others_held i.directory values file m h.given d q h.holds x) g)

pub resolutions_keep_open : ResolutionsKeepOpen
unfolding resolution x_resolution y_resolution resolution_unit
resolutions_keep_open = (
  λ u value. with_tags_kept resolution_cause (resolution_tags u value) refl,
  (
    λ value. with_tags_kept one_resolution_cause ((tag.XResolution, rationals (value ∷ []))
        ∷ []) refl,
    (
      λ value. with_tags_kept one_resolution_cause ((tag.YResolution, rationals (value ∷ []))
          ∷ []) refl,
      λ u. with_tags_kept resolution_unit_cause ((tag.ResolutionUnit, units (u ∷ [])) ∷ []) refl,
    ),
  ),
)
