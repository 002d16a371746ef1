-- The changes of an image's calls fit a file that a model describes.
use Rattle.std.proofs.Common.{◌≡◌, ℕ, ◌^◌, ◌<◌, ◌≤◌, ◌==◌, Bool, true, false, cond, ◌&&◌, List, [], ◌∷◌, ◌++◌, length, Option, Some, None, Ok, refl, sym, ◌∙◌, subst, arith, length-append}
use Rattle.std.proofs.lemmas.Bool.{ltb-true}
use Rattle.std.specs.FinMap.{len}
use Rattle.std.specs.Prelude.{nat_lt}
use Rattle.tiff_base.specs.declared.color.ChunkType.{ChunkType}
use Rattle.tiff_base.specs.declared.color.ChunkType.TheVariants.{Strip, Tile}
use Rattle.tiff_base.specs.declared.error.TiffError.{TiffError}
use Rattle.tiff_base.specs.declared.tags.FileKind.{FileKind}
use Rattle.tiff_base.specs.declared.tags.FileKind.TheVariants.{Classic, Big}
use Rattle.tiff_base.specs.declared.tags.PhotometricInterpretation.{PhotometricInterpretation}
use Rattle.tiff_base.specs.declared.tags.PhotometricInterpretation.TheVariants.{WhiteIsZero, BlackIsZero, RGB, RGBPalette, TransparencyMask, CMYK, YCbCr, CIELab, IccLab, ItuLab}
use Rattle.tiff_base.specs.declared.tags.Tag.{Tag}
use Rattle.tiff_base.specs.declared.tags.Tag.TheVariants as tag
use Rattle.tiff_base.specs.Directory.{link_offset}
use Rattle.tiff_base.specs.Field.{AreEntries}
use Rattle.tiff_base.specs.Tags.{tag_number}
use Rattle.tiff_value.specs.ColorType.{ColorTypeRecord}
use Rattle.tiff_value.specs.Data.{Scalars, u16s}
use Rattle.tiff_value.specs.lemmas.Data.{data_is_whole}
use Rattle.tiff_value.specs.FileBytes.{directory_bytes}
use Rattle.tiff_value.specs.Model.{Model, IsLink}
use Rattle.tiff_value.specs.WriteOps.{WriteOp, Listed, bytes_after, model_after}
use Rattle.tiff_encode.specs.Machine.{FileState, OpenDirectory, OpenImage, WriteCall, gives, does, by_cause, ◌>>=◌}
use Rattle.tiff_encode.specs.Chunks.{all_samples}
use Rattle.tiff_encode.specs.Causes.{end_of, begin_cause, finish_cause, new_image_cause, write_strip_cause, write_chunk_cause}
use Rattle.tiff_encode.specs.Calls.{new_directory, pad, image_directory, appends, Offsets, offsets_of, links_to, chain_after, chains, finish, write_tags, chroma_tags, first_tags, image_in, new_image, with_chunk, appends_chunk, write_strip, write_chunk, chunk_tags, last_tags, finish_image}
use Rattle.tiff_encode.specs.CallLaws.{CallFits, NewImageFits, SettingsFit, ResolutionsFit, ChunksFit, FinishImageFits}
use Rattle.tiff_base.specs.lemmas.Slices.{ok_inj}
use Rattle.tiff_value.specs.lemmas.File.WriteOps.{ops_grow, link_kept}
use Rattle.tiff_encode.proofs.Ending.{length-listed}
use Rattle.tiff_encode.proofs.Joining.{adding, appends_adds, begin_adds}
use Rattle.tiff_encode.proofs.Leaving.{ok_err, finish_plain, entries_fit}
use Rattle.tiff_encode.specs.Tagging.{fields_of}
use Rattle.tiff_encode.proofs.Tagging.{tags_are_fields}
use Rattle.tiff_encode.proofs.Image.Table.{Row, written, Setting, Extra, Rows, Sides, Planes, Both, Across, Down, Measure, call_of, row, called}
use Rattle.tiff_value.specs.lemmas.File.FitsEntries.{no_entries, remove_entries, data_bytes}
use Rattle.tiff_encode.proofs.Image.FitsCalls.{IsDone, adding_done, plain_done, gives_done, bind_done, ops_longer, done_longer, Fits, cause_fits, bind_fits, viewed_fits, AreData, Keeps, fields_done, fields_fit}

-- ---- several tags

-- whether each tag number has at most 16 bits
abbrev pub are_short : List (Tag × Scalars) → Bool
are_short [] = true
are_short (value ∷ values) = nat_lt (tag_number value.0) (2 ^ 16) && are_short values

pub both : (a b : Bool) → (a && b) ≡ true → (a ≡ true) × (b ≡ true)
both true b h = (refl, h)
both false b h = absurd cc

tags_data : (values : List (Tag × Scalars)) → are_short values ≡ true → AreData (fields_of values)
tags_data [] h = tt
tags_data (value ∷ values) h =
    let p = both (nat_lt (tag_number value.0) (2 ^ 16)) (are_short values) h in (
      record {
        tag = ltb-true (tag_number value.0) (2 ^ 16) p.0;
        whole = data_is_whole value.1;
        bytes = data_bytes value.1;
      },
      tags_data values p.1,
    )

module _ (d : OpenDirectory) (values : List (Tag × Scalars)) (file : FileState) where
  tags_done : IsDone (write_tags d values file) file
  tags_done =
      subst (λ told. IsDone told file) (sym (tags_are_fields d values file))
      (fields_done d (fields_of values) file)

  tags_fit : (parent : Option ℕ) (m : Model) → are_short values ≡ true → Keeps parent d
      → Fits (write_tags d values file) file m (Keeps parent)
  tags_fit parent m s k =
      subst (λ told. Fits told file m (Keeps parent)) (sym (tags_are_fields d values file))
      (fields_fit parent d (fields_of values) file m (tags_data values s) k)

-- the fields of an image's directory are entries
abbrev pub IsKept : OpenImage → Type 0
IsKept i = AreEntries i.directory.fields

-- several tags, and an image with the directory that has them
module _ (d : OpenDirectory) (g : OpenDirectory → OpenImage) (kept : (x : OpenDirectory) → AreEntries x.fields → IsKept (g x)) (file : FileState) where
  made_done : (values : List (Tag × Scalars))
      → IsDone ((write_tags d values >>= (λ x. gives (g x))) file) file
  made_done values =
      let next : FileState = (write_tags d values file).next in
      bind_done (write_tags d values) (λ x. gives (g x)) file (tags_done d values file)
      (λ x _. gives_done (g x) next)

  made_fits : (m : Model) (values : List (Tag × Scalars)) → are_short values ≡ true
      → AreEntries d.fields
      → Fits ((write_tags d values >>= (λ x. gives (g x))) file) file m IsKept
  made_fits m values s a =
      viewed_fits (write_tags d values) g file m IsKept (tags_done d values file)
      (λ x h l. let f = tags_fit d values file d.parent m s (a, refl) x h l in (f.0, kept x f.1.0))

-- ---- a new image

-- the tags of the color and some more tags have short numbers
color_short : (c : PhotometricInterpretation) (more : List (Tag × Scalars)) → are_short more ≡ true
    → are_short (chroma_tags c ++ more) ≡ true
color_short WhiteIsZero more h = h
color_short BlackIsZero more h = h
color_short RGB more h = h
color_short RGBPalette more h = h
color_short TransparencyMask more h = h
color_short CMYK more h = h
color_short YCbCr more h = h
color_short CIELab more h = h
color_short IccLab more h = h
color_short ItuLab more h = h

first_short : (i : OpenImage) → are_short (first_tags i) ≡ true
unfolding first_tags
first_short i = color_short i.color.interpretation _ refl

begin_fits : (file : FileState) (m : Model)
    → Fits (image_directory file) file m (Keeps (Some file.chain))
unfolding image_directory
begin_fits file m =
    let d : OpenDirectory = new_directory (Some file.chain) true in
    cause_fits (begin_cause file) (pad >>= (λ _. gives d)) file m (Keeps (Some file.chain))
    (λ c x h l. ((tt, tt), subst (Keeps (Some file.chain)) (ok_inj d x h) (no_entries, refl)))

module _ (file : FileState) (m : Model) (color : ColorTypeRecord) (size width height : ℕ) where
  abbrev image_of : OpenDirectory → OpenImage
  image_of d = image_in file d color size width height

  abbrev tagged : OpenDirectory → WriteCall OpenImage
  tagged d = write_tags d (first_tags (image_of d)) >>= (λ last. gives (image_of last))

  new_fits : Fits (new_image color size width height file) file m IsKept
  unfolding new_image
  new_fits =
      let next : FileState = (image_directory file).next in
      let after : Model = model_after file.kind file.bytes m (image_directory file).ops in
      cause_fits (new_image_cause file color width height) (image_directory
      >>= tagged) file m IsKept
      (λ c. bind_fits image_directory tagged file m (Keeps (Some file.chain)) IsKept
      (adding_done (image_directory file) file (adding _ _ (begin_adds file))) (begin_fits file m)
      (λ d _. made_done d image_of (λ x a. a) next (first_tags (image_of d)))
      (λ d _ k. made_fits d image_of (λ x a. a) next after (first_tags (image_of d)) (first_short (image_of d)) k.0))

pub new_image_fits : NewImageFits
new_image_fits file m color size width height i h l = new_fits file m color size width height i h l

-- ---- settings

-- a row of the table with short tag numbers, whose image has entries if the directory has
pub row_fits : (w : Row) → are_short w.tags ≡ true
    → ((i : OpenImage) (d : OpenDirectory) → AreEntries d.fields → IsKept (w.image i d))
    → (i : OpenImage) (file : FileState) (m : Model) → IsKept i
    → Fits (written w i file) file m IsKept
row_fits w s kept i file m a =
    cause_fits (w.cause i file) (write_tags i.directory w.tags
    >>= (λ d. gives (w.image i d))) file m IsKept
    (λ c. made_fits i.directory (w.image i) (kept i) file m w.tags s a)

row_short : (s : Setting) → are_short (row s).tags ≡ true
row_short (Extra extra) = refl
row_short s = refl

row_kept : (s : Setting) (i : OpenImage) (d : OpenDirectory) → AreEntries d.fields
    → IsKept ((row s).image i d)
row_kept (Sides width length) i d e = remove_entries d.fields (tag_number tag.RowsPerStrip) e
row_kept s i d e = e

pub setting_fits : (s : Setting) → CallFits (call_of s)
setting_fits s file m i next a h l =
    subst (λ told. Fits told file m IsKept) (sym (called s i file))
    (row_fits (row s) (row_short s) (row_kept s) i file m a) next h l

pub settings_fit : SettingsFit
settings_fit = (
  λ extra. setting_fits (Extra extra),
  (λ rows. setting_fits (Rows rows), (λ width length. setting_fits (Sides width length), setting_fits Planes)),
)

pub resolutions_fit : ResolutionsFit
resolutions_fit = (
  λ u value. setting_fits (Both u value),
  (λ value. setting_fits (Across value), (λ value. setting_fits (Down value), λ u. setting_fits (Measure u))),
)

-- ---- chunks

chunk_fits : (cause : Option TiffError) (i : OpenImage) (stored : List ℕ) (file : FileState)
    (m : Model) → IsKept i
    → Fits (by_cause cause (appends_chunk i stored) file) file m IsKept
chunk_fits cause i stored file m a =
    cause_fits cause (appends_chunk i stored) file m IsKept
    (λ c. viewed_fits (appends stored) (λ offset. with_chunk i offset (length stored)) file m IsKept
    (adding_done (appends stored file) file (adding _ _ (appends_adds stored file))) (λ offset h l. ((tt, tt), a)))

pub chunks_fit : ChunksFit
unfolding write_strip write_chunk
chunks_fit count stored = (
  λ file m i next a h l. chunk_fits (write_strip_cause file i count (length stored)) i stored file m a next h l,
  λ file m i next a h l. chunk_fits (write_chunk_cause file i count (length stored)) i stored file m a next h l,
)

-- ---- the end of an image

-- the last tags, with or without the number of samples, have short numbers
samples_short : (b : Bool) (value : Scalars) (more : List (Tag × Scalars)) → are_short more ≡ true
    → are_short (cond b [] ((tag.SamplesPerPixel, value) ∷ []) ++ more) ≡ true
samples_short true value more h = h
samples_short false value more h = h

chunks_short : (t : ChunkType) (offsets byte_counts : Scalars)
    → are_short (chunk_tags t offsets byte_counts) ≡ true
chunks_short Strip offsets byte_counts = refl
chunks_short Tile offsets byte_counts = refl

last_short : (kind : FileKind) (i : OpenImage) → are_short (last_tags kind i) ≡ true
unfolding last_tags
last_short kind i =
    samples_short (length i.extra == 0) (u16s (all_samples i
    ∷ [])) _ (chunks_short i.form.chunk_type _ _)

-- a directory has no more entries than bytes
entries_within : (kind : FileKind) (offset n : ℕ) → n ≤ link_offset kind offset n
entries_within Classic offset n = omega arith
entries_within Big offset n = omega arith

-- a directory that continues the chain keeps the length of the file
chain_end : (chained : Bool) (offsets : Offsets) (file : FileState)
    → end_of (chain_after file chained offsets) ≡ end_of file
chain_end true offsets file = refl
chain_end false offsets file = refl

-- nothing refuses a call that succeeds
answered : {A : Type 0} (cause : Option TiffError) (call : WriteCall A) (file : FileState) (x : A)
    → (by_cause cause call file).answer ≡ Ok x → end_of (by_cause cause call file).next < 2 ^ 64
    → end_of (call file).next < 2 ^ 64
answered None call file x h l = l
answered (Some e) call file x h l = absurd (ok_err (sym h))

few_entries : (file : FileState) (d : OpenDirectory) (x : Offsets) → AreEntries d.fields
    → (finish d file).answer ≡ Ok x
    → end_of (finish d file).next < 2 ^ 64 → len d.fields < 2 ^ 64
unfolding finish
few_entries file d x a h l =
    let offsets : Offsets = offsets_of file.kind (end_of file) (len d.fields) in
    let ops : List WriteOp = Listed d.fields ∷ links_to d.parent (end_of file) in
    let done : FileState = record file { bytes = bytes_after file.kind file.bytes ops } in
    let listed : List ℕ = directory_bytes file.kind d.fields in
    let short =
    answered (finish_cause file d) (does ops >>= (λ _. chains d.chained offsets)) file x h l in
    let end = chain_end d.chained offsets done in
    let longer = ops_longer file.kind (file.bytes ++ listed) (links_to d.parent (end_of file)) in
    let whole = length-listed file.kind (end_of file) d.fields a in
    let within = entries_within file.kind (end_of file) (len d.fields) in
    omega (arith, short, end, longer, whole, within, length-append file.bytes listed)

ended_fits : (d : OpenDirectory) (file : FileState) (m : Model) → AreEntries d.fields
    → ((offset : ℕ) → d.parent ≡ Some offset → IsLink file.kind m offset)
    → Fits (finish d file) file m (λ _. Unit {0})
ended_fits d file m a p x h l =
    let longer =
    done_longer (finish d file) file (plain_done (finish d file) file (finish_plain d file)) in
    (entries_fit file m d a (few_entries file d x a h l) p (omega (arith, longer, l)), tt)

pub finish_image_fits : FinishImageFits
unfolding finish_image
finish_image_fits file m i offsets a h l p =
    let call : WriteCall OpenDirectory = write_tags i.directory (last_tags file.kind i) in
    let next : FileState = (call file).next in
    let after : Model = model_after file.kind file.bytes m (call file).ops in
    let done = tags_done i.directory (last_tags file.kind i) file in
    let link : (offset : ℕ) → i.directory.parent ≡ Some offset
    → IsLink next.kind after offset = λ offset e.
    subst (λ kind. IsLink kind after offset) (sym done.kind)
    (link_kept file.kind m after offset (ops_grow file.kind file.bytes m (call file).ops) (p offset e)) in
    let both = bind_fits call (λ d. finish d) file m (Keeps i.directory.parent) (λ _. Unit {0}) done
    (tags_fit i.directory (last_tags file.kind i) file i.directory.parent m (last_short file.kind i) (a, refl))
    (λ d _. plain_done (finish d next) next (finish_plain d next))
    (λ d _ k. ended_fits d next after k.0 (λ offset e. link offset (sym k.1 ∙ e))) offsets h l in
    both.0
