-- A page read from its tags has samples, and an offset for each chunk.
use Rattle.std.proofs.Common.{zero, suc, ◌≡◌, ℕ, ◌^◌, ◌<◌, true, false, cond, Bool, length, Result, Ok, Err, refl, sym, subst, arith, ⊎_elim}
use Rattle.std.specs.Prelude.{nat_lt, ◌==◌, ◌&&◌}
use Rattle.std.proofs.lemmas.Bool.{eqb-true}
use Rattle.tiff_base.specs.lemmas.Common.{bind_ok}
use Rattle.tiff_base.specs.declared.color.ChunkType.{ChunkType}
use Rattle.tiff_base.specs.declared.color.ChunkType.TheVariants.{Strip, Tile}
use Rattle.tiff_base.specs.declared.error.TiffError.{TiffError}
use Rattle.tiff_base.specs.declared.tags.Tag.TheVariants as tag
use Rattle.tiff_base.specs.declared.error.TiffError.TheVariants.{FormatError}
use Rattle.tiff_base.specs.declared.error.TiffFormatError.TheVariants.{InvalidTagValueType}
use Rattle.tiff_ifd.specs.Into.{into_u16, into_u32, into_u64_vec}
use Rattle.tiff_ifd.specs.TagLookup.{TagLookup, find_or, require}
use Rattle.tiff_page.specs.Page.{PageRecord, Chunks}
use Rattle.tiff_page.specs.Counts.{chunk_count, planes_of, all_chunks}
use Rattle.tiff_page.specs.Checks.{some_samples, samples_in, some_rows, some_side, inconsistent, chunks_counted, strips_in, tiles_in, chunks_in, page_of}
use Rattle.tiff_page.specs.lemmas.PassedChecks.{passed_checks}
use Rattle.tiff_page.specs.lemmas.Planes.{cases_of, given_bind}
use Rattle.tiff_base.specs.lemmas.Slices.{ok_inj}

-- if a choice between a value and an error succeeds, it returns the value
chosen : {A : Type 0} (b : Bool) (x y : A) (e : TiffError) → cond b (Ok x) (Err e) ≡ Ok y
    → (b ≡ true) × (x ≡ y)
chosen true x y e h = (refl, ok_inj x y h)
chosen false x y e h = absurd cc

refused : {A : Type 0} (b : Bool) (x y : A) (e : TiffError) → cond b (Err e) (Ok x) ≡ Ok y
    → (b ≡ false) × (x ≡ y)
refused true x y e h = absurd cc
refused false x y e h = (refl, ok_inj x y h)

-- the second of three tests that hold
middle : (a b c : Bool) → ((a && b) && c) ≡ true → b ≡ true
middle true true c h = refl
middle true false c h = cc
middle false b c h = cc

-- a number that is not 0 is above 0
positive : (n : ℕ) → (n == 0) ≡ false → 0 < n
positive zero h = cc
positive (suc n) h = omega arith

-- a page has at least one sample
some_is : (n m : ℕ) → some_samples n ≡ Ok m → 0 < m
some_is n m e =
    let r = refused (n == 0) n m _ e in
    subst (λ (k : ℕ). 0 < k) r.1 (positive n r.0)

samples_some : (look : TagLookup) (n : ℕ) → samples_in look ≡ Ok n → 0 < n
unfolding samples_in
samples_some look n e =
    let b = bind_ok (find_or into_u16 look tag.SamplesPerPixel 1) _ _ e in some_is b.0 n b.1.1

-- counted chunks have one offset each
abbrev AreListed : ℕ → ℕ → ℕ → Chunks → Type 0
AreListed width height planes c =
    length c.offsets ≡ chunk_count width height c.chunk_width c.chunk_height planes

counted_listed : (width height planes : ℕ) (chunks c : Chunks)
    → chunks_counted width height planes chunks ≡ Ok c → AreListed width height planes c
unfolding chunks_counted
counted_listed width height planes chunks c e =
    let count : ℕ = chunk_count width height chunks.chunk_width chunks.chunk_height planes in
    let r =
    chosen ((length chunks.offsets == length chunks.byte_counts) && (length chunks.offsets == count) && nat_lt count (2 ^ 32)) chunks c inconsistent e in
    subst (AreListed width height planes) r.1
    (eqb-true (length chunks.offsets) count (middle (length chunks.offsets == length chunks.byte_counts) (length chunks.offsets == count) (nat_lt count (2 ^ 32)) r.0))

-- counted chunks in a result have one offset each
abbrev Counted : ℕ → ℕ → ℕ → Result Chunks TiffError → Type 0
Counted width height planes (Ok c) = AreListed width height planes c
Counted width height planes (Err e) = Unit {0}

counted_given : (width height planes : ℕ) (chunks : Chunks)
    → Counted width height planes (chunks_counted width height planes chunks)
counted_given width height planes chunks =
    ⊎_elim (λ a. subst (Counted width height planes) (sym a.1) (counted_listed width height planes chunks a.0 a.1))
    (λ b. subst (Counted width height planes) (sym b.1) tt) (cases_of (chunks_counted width height planes chunks))

chunks_given : (look : TagLookup) (type : ChunkType) (width height planes : ℕ)
    → Counted width height planes (chunks_in look type width height planes)
unfolding strips_in tiles_in
chunks_given look Strip width height planes =
    let P : Result Chunks TiffError → Type 0 = Counted width height planes in
    given_bind P (require into_u64_vec look tag.StripOffsets) _ (λ e. tt) (λ offsets eo.
    given_bind P (require into_u64_vec look tag.StripByteCounts) _ (λ e. tt) (λ byte_counts eb.
    given_bind P (find_or into_u32 look tag.RowsPerStrip height) _ (λ e. tt) (λ rows er.
    given_bind P (some_rows rows) _ (λ e. tt) (λ some es.
    counted_given width height planes (record { chunk_width = width; chunk_height = rows; offsets = offsets; byte_counts = byte_counts })))))
chunks_given look Tile width height planes =
    let P : Result Chunks TiffError → Type 0 = Counted width height planes in
    given_bind P (require into_u32 look tag.TileWidth) _ (λ e. tt) (λ wide ew.
    given_bind P (require into_u32 look tag.TileLength) _ (λ e. tt) (λ high eh.
    given_bind P (some_side wide (FormatError (InvalidTagValueType tag.TileWidth))) _ (λ e. tt) (λ some es.
    given_bind P (some_side high (FormatError (InvalidTagValueType tag.TileLength))) _ (λ e. tt) (λ other et.
    given_bind P (require into_u64_vec look tag.TileOffsets) _ (λ e. tt) (λ offsets eo.
    given_bind P (require into_u64_vec look tag.TileByteCounts) _ (λ e. tt) (λ byte_counts eb.
    counted_given width height planes (record { chunk_width = wide; chunk_height = high; offsets = offsets; byte_counts = byte_counts })))))))

-- A page has samples, and an offset for each chunk.
pub record IsListed (p : PageRecord) : Type 0 where
  pub some : 0 < p.samples
  pub offsets : length p.offsets ≡ all_chunks p

-- a page read from its tags has samples and an offset for each chunk
pub page_listed : (look : TagLookup) (p : PageRecord) → page_of look ≡ Ok p → IsListed p
page_listed look p e =
    let passed = passed_checks look p e in
    let planes : ℕ = planes_of p.planar p.samples in
    record {
      some = samples_some look p.samples passed.samples;
      offsets =
          subst (Counted p.width p.height planes) passed.chunks (chunks_given look p.chunk_type p.width p.height planes);
    }
