-- An open image stays held if calls set its layout and its extra samples.
use Rattle.std.proofs.Common.{◌≡◌, ℕ, ◌+◌, ◌^◌, ◌<◌, ◌≤◌, inl, Bool, true, false, cond, List, [], ◌∷◌, length, get_or, Option, Some, None, Ok, refl, ap, sym, ◌∙◌, subst, arith}
use Rattle.std.proofs.lemmas.Bool.{ltb-false, eqb-false}
use Rattle.std.specs.Prelude.{◌==◌}
use Rattle.tiff_base.specs.lemmas.Common.{neither}
use Rattle.tiff_base.specs.declared.color.ChunkType.TheVariants.{Strip, Tile}
use Rattle.tiff_base.specs.declared.error.TiffError.{TiffError}
use Rattle.tiff_base.specs.declared.io.SinkFault.{SinkFault}
use Rattle.tiff_base.specs.declared.tags.ExtraSamples.{ExtraSamples}
use Rattle.tiff_base.specs.declared.tags.FileKind.{FileKind}
use Rattle.tiff_base.specs.declared.tags.PlanarConfiguration.TheVariants.{Planar}
use Rattle.tiff_base.specs.declared.tags.Tag.{Tag}
use Rattle.tiff_base.specs.declared.tags.Tag.TheVariants as tag
use Rattle.tiff_base.specs.Tags.{tag_number}
use Rattle.tiff_value.specs.ColorType.{is_packed}
use Rattle.tiff_value.specs.Data.{Scalars, u32s, planars, extras}
use Rattle.tiff_value.specs.Model.{In, Model}
use Rattle.tiff_encode.specs.Machine.{FileState, OpenDirectory, ChunkLayout, OpenImage, WriteOutcome}
use Rattle.tiff_encode.specs.Drawn.{IsForm}
use Rattle.tiff_encode.specs.Chunks.{is_tile, is_begun}
use Rattle.tiff_encode.specs.Causes.{unless_ended, is_no_side, extra_samples_cause, rows_per_strip_cause, tiles_cause, planar_cause}
use Rattle.tiff_encode.specs.Calls.{write_tags, strips_of, tiles_of, without_field, extra_samples, set_rows_per_strip, tiles, planar}
use Rattle.tiff_encode.specs.Held.{Given, HoldsValues, samples_of_chunk}
use Rattle.tiff_encode.specs.Open.{TellsOpen, IsOpen, HoldsChunks, RecordsImage, model_by, KeepsOpen, SettingsKeepOpen}
use Rattle.tiff_encode.proofs.Image.Table.{Setting, Extra, Rows, Sides, Planes, call_of, row, called}
use Rattle.tiff_encode.proofs.Given.{IsLocal, places_kept, unplaced}
use Rattle.tiff_encode.proofs.Open.Held.{set, set_local, unset_held}
use Rattle.tiff_encode.proofs.Open.Tags.{tags_held, after, after_local}
use Rattle.tiff_encode.proofs.Open.Kept.{tells_changed, open_with, row_held}

-- ---- what the checks of these calls imply

-- no sink error precedes a call that nothing refuses
pub fresh : (fault : Option SinkFault) (cause : Option TiffError) → unless_ended fault cause ≡ None
    → cause ≡ None
fresh None cause h = h
fresh (Some f) cause h = absurd cc

-- if the tests return no error, the first test isn't met and the others return none
pub first_test : (a : Bool) (e : TiffError) (rest : Option TiffError) → cond a (Some e) rest ≡ None
    → (a ≡ false) × (rest ≡ None)
first_test true e rest h = absurd cc
first_test false e rest h = (refl, h)

no_strip : Tile ≡ Strip → ⊥
no_strip e = cc

-- a number that isn't 0 is above 0
pub above : (n : ℕ) → (n == 0) ≡ false → 0 < n
above n h = let e = eqb-false n 0 h in omega (arith, e)

-- a color type that doesn't pack pixels packs none
unpacked : {A : Type 0} (i : OpenImage) → is_packed i.color ≡ false → is_packed i.color ≡ true → A
unpacked i n p = absurd cc

-- ---- an image without chunks

-- an image without chunks holds its chunks in each layout
none_held : (kind : FileKind) (m : Model) (i next : OpenImage) (samples : List (List ℕ))
    → HoldsChunks kind m i samples
    → is_begun i ≡ false → next.chunks ≡ i.chunks → next.size ≡ i.size
    → HoldsChunks kind m next samples
none_held kind m i next samples h b c s =
    let none : length i.chunks ≤ 0 = ltb-false 0 (length i.chunks) b in
    let same : length next.chunks ≡ length i.chunks = ap (λ cs. length cs) c in
    record {
      as_many = h.as_many ∙ sym same;
      within = omega (arith, none, same);
      few = λ l. absurd (omega (arith, none, same, l));
      lengths = λ k l. absurd (omega (arith, none, same, l));
      small =
          λ k n. subst (λ z. get_or (samples_of_chunk samples k) n 0
          < 256 ^ z) (sym s) (h.small k n);
      regions = λ k l. absurd (omega (arith, none, same, l));
      fit = λ x l. h.fit x (subst (λ cs. In x cs) c l);
    }

-- what is held of an image after a call of the table: its directory has the values of the tags
setting_held : (s : Setting) (file : FileState) (m : Model) (i next : OpenImage)
    (samples : List (List ℕ)) (h : RecordsImage file.kind m i samples)
    → (call_of s i file).answer ≡ Ok next
    → ((d : OpenDirectory) (n : Model) → (row s).cause i file ≡ None
    → HoldsChunks file.kind n i samples
    → HoldsValues n d.fields (after h.given (row s).tags) → RecordsImage file.kind n ((row s).image i d) samples)
    → RecordsImage file.kind (model_by file m (call_of s i file)) next samples
setting_held s file m i next samples h a f =
    let tags : List (Tag × Scalars) = (row s).tags in
    subst (λ told. RecordsImage file.kind (model_by file m told) next samples) (sym (called s i file))
    (row_held (row s) file m i next samples h (subst (λ (told : WriteOutcome OpenImage). told.answer
    ≡ Ok next) (called s i file) a)
    (λ d c x g. f d (model_by file m (write_tags i.directory tags file)) c g (tags_held i.directory tags file m h.given d h.holds x)))

-- ---- extra samples

extra_kept : (extra : List ExtraSamples) → KeepsOpen (λ i. extra_samples i extra)
unfolding extra_samples_cause
extra_kept extra file m i next samples h a =
    let call : OpenDirectory → OpenImage = λ d. record i { directory = d; extra = extra } in
    let value : Option Scalars = Some (extras extra) in
    let change : Given → Given = λ given. set given (tag_number tag.ExtraSamples) value in
    setting_held (Extra extra) file m i next samples h a
    (λ d n c g o.
    let tests = first_test _ _ _ (fresh file.fault _ c) in
    let whole = first_test _ _ _ tests.1 in
    let count = first_test _ _ _ whole.1 in
    let few = ltb-false 65535 (length i.color.bits + length extra) count.0 in
    let t : TellsOpen i h.given = h.tells in
    record {
      given = change h.given;
      holds = o;
      tells =
          tells_changed change (set_local (tag_number tag.ExtraSamples) value) i (call d) h.given t
          (inl refl) refl
          (places_kept i.form.chunk_type i.form.chunk_width i.form.chunk_height h.given (change h.given) refl t.chunks);
      open_so =
          open_with i d extra i.form i.chunks h.open_so (omega (arith, few)) h.open_so.form
          (unpacked i whole.0);
      chunks = none_held file.kind n i (call d) samples g tests.0 refl refl;
    })

-- ---- the layout of an image

-- an image with another layout that its values describe
cut_kept : (kind : FileKind) (m : Model) (i : OpenImage) (d : OpenDirectory) (form : ChunkLayout)
    (later : Given) (samples : List (List ℕ))
    → IsOpen i → HoldsChunks kind m i samples → is_begun i ≡ false → IsForm i.width form
    → (is_packed i.color ≡ true → (form.chunk_type ≡ Strip) × (i.extra ≡ []))
    → HoldsValues m d.fields later
    → TellsOpen (record i { directory = d; form = form }) later
    → RecordsImage kind m (record i { directory = d; form = form }) samples
cut_kept kind m i d form later samples s c b f plain o t =
    record {
      given = later;
      holds = o;
      tells = t;
      open_so = open_with i d i.extra form i.chunks s s.few f plain;
      chunks = none_held kind m i (record i { directory = d; form = form }) samples c b refl refl;
    }

rows_kept : (rows : ℕ) → rows < 2 ^ 32 → KeepsOpen (λ i. set_rows_per_strip i rows)
unfolding rows_per_strip_cause
rows_kept rows l file m i next samples h a =
    let form : ChunkLayout = strips_of i.width rows i.form.planar in
    let value : Option Scalars = Some (u32s (rows ∷ [])) in
    let change : Given → Given = λ given. set given (tag_number tag.RowsPerStrip) value in
    setting_held (Rows rows) file m i next samples h a
    (λ d n c g o.
    let tests = first_test _ _ _ (fresh file.fault _ c) in
    let some = neither (rows == 0) _ tests.0 in
    let fresh = neither (is_begun i) (is_tile i.form.chunk_type) some.1 in
    let t : TellsOpen i h.given = h.tells in
    let none = unplaced i.form.chunk_type i.form.chunk_width i.form.chunk_height h.given t.chunks in
    cut_kept file.kind n i d form (change h.given) samples h.open_so g fresh.0
    (record { wide = h.open_so.wide; high = (above rows some.0, l); strips = λ _. refl })
    (λ p. (refl, (h.open_so.pixels.plain p).1.0)) o
    (tells_changed change (set_local (tag_number tag.RowsPerStrip) value) i (record i { directory = d; form = form }) h.given t t.extra refl (refl, none)))

planar_kept : KeepsOpen planar
unfolding planar_cause
planar_kept file m i next samples h a =
    let form : ChunkLayout = record i.form { planar = Planar } in
    let call : OpenDirectory → OpenImage = λ d. record i { directory = d; form = form } in
    let value : Option Scalars = Some (planars (Planar ∷ [])) in
    let change : Given → Given = λ given. set given (tag_number tag.PlanarConfiguration) value in
    setting_held Planes file m i next samples h a
    (λ d n c g o.
    let tests = first_test _ _ _ (fresh file.fault _ c) in
    let t : TellsOpen i h.given = h.tells in
    let f : IsForm i.width i.form = h.open_so.form in
    cut_kept file.kind n i d form (change h.given) samples h.open_so g tests.0
    (record { wide = f.wide; high = f.high; strips = f.strips }) (λ p. let q =
    h.open_so.pixels.plain p in (q.0, q.1.0)) o
    (tells_changed change (set_local (tag_number tag.PlanarConfiguration) value) i (call d) h.given t t.extra refl
    (places_kept i.form.chunk_type i.form.chunk_width i.form.chunk_height h.given (change h.given) refl t.chunks)))

-- a side of a tile isn't 0
side : (n : ℕ) → is_no_side n ≡ false → 0 < n
side n h = above n (neither (n == 0) _ h).0

tiles_kept : (width length : ℕ) → width < 2 ^ 32 → length < 2 ^ 32
    → KeepsOpen (λ i. tiles i width length)
unfolding tiles_cause
tiles_kept width length w l file m i next samples h a =
    let form : ChunkLayout = tiles_of width length i.form.planar in
    let values : List (Tag × Scalars) =
    (tag.TileWidth, u32s (width ∷ [])) ∷ (tag.TileLength, u32s (length ∷ [])) ∷ [] in
    let change : Given → Given =
    λ given. set (after given values) (tag_number tag.RowsPerStrip) None in
    let local : IsLocal change =
    λ f g n e. set_local (tag_number tag.RowsPerStrip) None (after f values) (after g values) n
    (after_local values f g n e) in
    setting_held (Sides width length) file m i next samples h a
    (λ d n c g o.
    let tests = first_test _ _ _ (fresh file.fault _ c) in
    let whole = neither (is_packed i.color) _ (first_test _ _ _ tests.1).0 in
    let sides = neither (is_no_side width) (is_no_side length) whole.1 in
    let t : TellsOpen i h.given = h.tells in
    let none = unplaced i.form.chunk_type i.form.chunk_width i.form.chunk_height h.given t.chunks in
    cut_kept file.kind n i (without_field d tag.RowsPerStrip) form
    (change h.given) samples h.open_so g tests.0
    (record { wide = (side width sides.0, w); high = (side length sides.1, l); strips = λ e. absurd (no_strip e) })
    (unpacked i whole.0)
    (unset_held n d.fields (after h.given values) (tag_number tag.RowsPerStrip) o)
    (tells_changed change local i (record i { directory = without_field d tag.RowsPerStrip; form = form }) h.given t t.extra refl
    (refl, (refl, (none.1.1.0, (none.1.1.1.0, (none.0, (none.1.0, tt))))))))

pub settings_keep_open : SettingsKeepOpen
settings_keep_open = (extra_kept, (rows_kept, (tiles_kept, planar_kept)))
