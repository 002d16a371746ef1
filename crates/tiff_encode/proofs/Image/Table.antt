-- The table of the calls that set the tags and the layout of an open image. Each of them writes
-- tags to the
-- directory of the image, unless its checks refuse it.
use Rattle.std.proofs.Common.{◌≡◌, ℕ, List, [], ◌∷◌, Option, Some, None, Ok, refl, sym, subst}
use Rattle.tiff_base.specs.declared.error.TiffError.{TiffError}
use Rattle.tiff_base.specs.declared.tags.ExtraSamples.{ExtraSamples}
use Rattle.tiff_base.specs.declared.tags.PlanarConfiguration.TheVariants.{Planar}
use Rattle.tiff_base.specs.declared.tags.ResolutionUnit.{ResolutionUnit}
use Rattle.tiff_base.specs.declared.tags.Tag.{Tag}
use Rattle.tiff_base.specs.declared.tags.Tag.TheVariants as tag
use Rattle.tiff_value.specs.Data.{Scalars, u32s, planars, units, extras, rationals, data_of}
use Rattle.tiff_encode.specs.Machine.{FileState, OpenDirectory, OpenImage, WriteOutcome, WriteCall, gives, by_cause, ◌>>=◌}
use Rattle.tiff_encode.specs.Causes.{extra_samples_cause, rows_per_strip_cause, tiles_cause, planar_cause, resolution_cause, one_resolution_cause, resolution_unit_cause}
use Rattle.tiff_encode.specs.Calls.{write_tag, write_tags, without_field, strips_of, tiles_of, with_directory_of, extra_samples, set_rows_per_strip, tiles, planar, resolution_tags, resolution, x_resolution, y_resolution, resolution_unit}
use Rattle.tiff_encode.proofs.Guarding.{fresh_by, uncaused_by}
use Rattle.tiff_encode.proofs.Joining.{IsAdding, answers_adding, caused_adding, bind_adding}
use Rattle.tiff_encode.proofs.Open.Tags.{tags_adding}
use Rattle.tiff_encode.proofs.Tagging.{going_further}

-- ---- the table

-- the error that refuses a call, the tags that it writes, and the image with the directory that has
-- them
pub record Row : Type 0 where
  pub cause : OpenImage → FileState → Option TiffError
  pub tags : List (Tag × Scalars)
  pub image : OpenImage → OpenDirectory → OpenImage

abbrev pub written : Row → OpenImage → WriteCall OpenImage
written w i file =
    by_cause (w.cause i file) (write_tags i.directory w.tags >>= (λ d. gives (w.image i d))) file

-- a call that only writes tags
abbrev pub tagged : (FileState → Option TiffError) → List (Tag × Scalars) → Row
tagged cause tags =
    record { cause = λ i file. cause file; tags = tags; image = λ i d. with_directory_of i d }

-- the calls, with what they are given
pub data Setting : Type 0 where
  Extra : List ExtraSamples → Setting
  Rows : ℕ → Setting
  Sides : ℕ → ℕ → Setting
  Planes : Setting
  Both : ResolutionUnit → ℕ × ℕ → Setting
  Across : ℕ × ℕ → Setting
  Down : ℕ × ℕ → Setting
  Measure : ResolutionUnit → Setting

abbrev pub call_of : Setting → OpenImage → WriteCall OpenImage
call_of (Extra extra) i = extra_samples i extra
call_of (Rows rows) i = set_rows_per_strip i rows
call_of (Sides width length) i = tiles i width length
call_of Planes i = planar i
call_of (Both u value) i = resolution i u value
call_of (Across value) i = x_resolution i value
call_of (Down value) i = y_resolution i value
call_of (Measure u) i = resolution_unit i u

abbrev pub row : Setting → Row
row (Extra extra) = record {
  cause = λ i file. extra_samples_cause file i extra;
  tags = (tag.ExtraSamples, extras extra) ∷ [];
  image = λ i d. record i { directory = d; extra = extra };
}
row (Rows rows) = record {
  cause = λ i file. rows_per_strip_cause file i rows;
  tags = (tag.RowsPerStrip, u32s (rows ∷ [])) ∷ [];
  image = λ i d. record i { directory = d; form = strips_of i.width rows i.form.planar };
}
row (Sides width length) = record {
  cause = λ i file. tiles_cause file i width length;
  tags = (tag.TileWidth, u32s (width ∷ [])) ∷ (tag.TileLength, u32s (length ∷ [])) ∷ [];
  image =
      λ i d. record i { directory = without_field d tag.RowsPerStrip; form = tiles_of width length i.form.planar };
}
row Planes = record {
  cause = λ i file. planar_cause file i;
  tags = (tag.PlanarConfiguration, planars (Planar ∷ [])) ∷ [];
  image = λ i d. record i { directory = d; form = record i.form { planar = Planar } };
}
row (Both u value) = tagged resolution_cause (resolution_tags u value)
row (Across value) = tagged one_resolution_cause ((tag.XResolution, rationals (value ∷ [])) ∷ [])
row (Down value) = tagged one_resolution_cause ((tag.YResolution, rationals (value ∷ [])) ∷ [])
row (Measure u) = tagged resolution_unit_cause ((tag.ResolutionUnit, units (u ∷ [])) ∷ [])

-- ---- each call is as its row says

-- one tag is a list of one tag
one_tagged : (cause : Option TiffError) (d : OpenDirectory) (t : Tag) (value : Scalars)
    (g : OpenDirectory → OpenImage) (file : FileState)
    → by_cause cause (write_tag d t (Ok (data_of value)) >>= (λ x. gives (g x))) file
    ≡ by_cause cause (write_tags d ((t, value) ∷ []) >>= (λ x. gives (g x))) file
one_tagged None d t value g file =
    let told : WriteOutcome OpenDirectory = write_tag d t (Ok (data_of value)) file in
    going_further told.answer told.ops told.next (λ x. gives x) (λ x. gives (g x))
one_tagged (Some e) d t value g file = refl

pub called : (s : Setting) (i : OpenImage) (file : FileState)
    → call_of s i file ≡ written (row s) i file
unfolding extra_samples set_rows_per_strip tiles planar resolution x_resolution y_resolution resolution_unit
called (Extra extra) i file =
    one_tagged (extra_samples_cause file i extra) i.directory tag.ExtraSamples (extras extra)
    (λ d. record i { directory = d; extra = extra }) file
called (Rows rows) i file =
    one_tagged (rows_per_strip_cause file i rows) i.directory tag.RowsPerStrip (u32s (rows ∷ []))
    (λ d. record i { directory = d; form = strips_of i.width rows i.form.planar }) file
called Planes i file =
    one_tagged (planar_cause file i) i.directory tag.PlanarConfiguration (planars (Planar ∷ []))
    (λ d. record i { directory = d; form = record i.form { planar = Planar } }) file
called s i file = refl

-- ---- what each row has

-- a call as a row says only appends
pub row_adding : (w : Row) (i : OpenImage) (file : FileState) → IsAdding (written w i file) file
row_adding w i file =
    let call : WriteCall OpenDirectory = write_tags i.directory w.tags in
    let rest : OpenDirectory → WriteCall OpenImage = λ d. gives (w.image i d) in
    caused_adding (w.cause i file) (call >>= rest) file
    (bind_adding call rest file (tags_adding i.directory w.tags file) (λ d _. answers_adding (Ok (w.image i d)) (call file).next))

pub setting_adding : (s : Setting) (i : OpenImage) (file : FileState)
    → IsAdding (call_of s i file) file
setting_adding s i file =
    subst (λ told. IsAdding told file) (sym (called s i file)) (row_adding (row s) i file)

-- no sink error precedes a call that succeeds
uncaused_fresh : (s : Setting) (i : OpenImage) (file : FileState) → (row s).cause i file ≡ None
    → file.fault ≡ None
unfolding extra_samples_cause rows_per_strip_cause tiles_cause planar_cause resolution_cause one_resolution_cause resolution_unit_cause
uncaused_fresh (Extra extra) i file c = fresh_by file.fault _ c
uncaused_fresh s i file c = fresh_by file.fault _ c

pub setting_fresh : (s : Setting) (i : OpenImage) (file : FileState) (x : OpenImage)
    → (call_of s i file).answer ≡ Ok x → file.fault ≡ None
setting_fresh s i file x h =
    uncaused_fresh s i file
    (uncaused_by ((row s).cause i file) (write_tags i.directory (row s).tags
    >>= (λ d. gives ((row s).image i d))) file x
    (subst (λ (told : WriteOutcome OpenImage). told.answer ≡ Ok x) (called s i file) h))
