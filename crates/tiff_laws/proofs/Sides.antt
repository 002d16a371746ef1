-- A page that the tags define has sides and samples.
use Rattle.std.proofs.Common.{◌≡◌, ℕ, zero, suc, ◌^◌, ◌<◌, Bool, true, false, List, [], ◌∷◌, length, Option, Some, None, Ok, Err, refl, subst, arith}
use Rattle.std.specs.Prelude.{Result, if◌then◌else◌, ◌==◌, ◌&&◌, ◌||◌, not}
use Rattle.std.specs.List.{list_all}
use Rattle.tiff_base.specs.lemmas.Common.{bind_ok}
use Rattle.tiff_base.specs.lemmas.Common.{neither}
use Rattle.tiff_base.specs.declared.error.TiffError.{TiffError}
use Rattle.tiff_base.specs.declared.error.TiffError.TheVariants.{FormatError}
use Rattle.tiff_base.specs.declared.error.TiffFormatError.TheVariants.{InvalidTagValueType}
use Rattle.tiff_base.specs.declared.tags.Tag.TheVariants as tag
use Rattle.tiff_base.specs.declared.color.ChunkType.{ChunkType}
use Rattle.tiff_base.specs.declared.color.ChunkType.TheVariants.{Strip, Tile}
use Rattle.tiff_base.specs.Answers.{◌>>=◌}
use Rattle.tiff_ifd.specs.Into.{into_u16, into_u32, into_u64_vec}
use Rattle.tiff_ifd.specs.TagLookup.{TagLookup, find, find_or, require}
use Rattle.tiff_ifd.specs.Fitted.{fitted_numbers}
use Rattle.tiff_page.specs.Counts.{planes_of}
use Rattle.tiff_page.specs.Page.{Chunks}
use Rattle.tiff_page.specs.Checks.{sides, size_in, some_samples, samples_in, same_depth, one_depth, depth_from, depth_in, chunks_counted, some_rows, strips_in, some_side, tiles_in, chunks_in}
use Rattle.tiff_page.specs.lemmas.PassedChecks.{good, ok_is, passed_checks}
use Rattle.tiff_laws.specs.Sides.{PageHasMethod, PageHasSides}

-- ---- the result of a choice

some_of : (n : ℕ) → (n == 0) ≡ false → 0 < n
some_of zero h = cc
some_of (suc n) h = omega arith

not_is : (b : Bool) → not b ≡ true → b ≡ false
not_is true h = cc
not_is false h = refl

module _ {A : Type 0} (x y : A) (e : TiffError) where
  pick_yes : (a : Bool) → (if a then good x else Err e) ≡ Ok y → (a ≡ true) × (x ≡ y)
  pick_yes true h = (refl, ok_is x y h)
  pick_yes false h = cc

  pick_no : (a : Bool) → (if a then Err e else good x) ≡ Ok y → (a ≡ false) × (x ≡ y)
  pick_no true h = cc
  pick_no false h = (refl, ok_is x y h)

and_right : (a b : Bool) → (a && b) ≡ true → b ≡ true
and_right true b h = h
and_right false b h = cc

-- ---- the results of the checks

module _ (look : TagLookup) where
  size_some : (s : ℕ × ℕ) → size_in look ≡ Ok s → (0 < s.0) × (0 < s.1)
  unfolding size_in
  size_some s h =
      let a =
      bind_ok (require into_u32 look tag.ImageWidth) (λ width. require into_u32 look tag.ImageLength >>= (λ height. sides width height)) s h in
      let b =
      bind_ok (require into_u32 look tag.ImageLength) (λ height. sides a.0 height) s a.1.1 in
      let c = pick_no (a.0, b.0) s _ (a.0 == 0 || b.0 == 0) b.1.1 in
      let d = neither (a.0 == 0) (b.0 == 0) c.0 in
      subst (λ (z : ℕ × ℕ). (0 < z.0) × (0 < z.1)) c.1 (some_of a.0 d.0, some_of b.0 d.1)

  samples_some : (n : ℕ) → samples_in look ≡ Ok n → 0 < n
  unfolding samples_in
  samples_some n h =
      let a = bind_ok (find_or into_u16 look tag.SamplesPerPixel 1) some_samples n h in
      let b = pick_no a.0 n _ (a.0 == 0) a.1.1 in
      subst (λ (z : ℕ). 0 < z) b.1 (some_of a.0 b.0)

  same_some : (bits : List ℕ) (d : ℕ) → same_depth bits ≡ Ok d → 0 < d
  same_some [] d h = cc
  same_some (n ∷ ns) d h =
      let a = pick_yes n d _ (list_all (λ m. m == n) (n ∷ ns) && not (n == 0)) h in
      subst (λ (z : ℕ). 0 < z) a.1 (some_of n (not_is (n == 0) (and_right (list_all (λ m. m == n) (n ∷ ns)) (not (n == 0)) a.0)))

  one_some : (a : Bool) (bits : List ℕ) (e : TiffError) (d : ℕ)
      → (if a then same_depth bits else Err e) ≡ Ok d → 0 < d
  one_some true bits e d h = same_some bits d h
  one_some false bits e d h = cc

  depth_some_from : (samples : ℕ) (found : Option (List ℕ)) (d : ℕ)
      → depth_from samples found ≡ Ok d → 0 < d
  depth_some_from samples None d h = let e : 1 ≡ d = ok_is 1 d h in omega (arith, e)
  depth_some_from samples (Some numbers) d h =
      let a = bind_ok (fitted_numbers tag.BitsPerSample (2 ^ 8) numbers) (one_depth samples) d h in
      one_some (length a.0 == samples || length a.0 == 1) a.0 _ d a.1.1

  depth_some : (samples d : ℕ) → depth_in look samples ≡ Ok d → 0 < d
  unfolding depth_in
  depth_some samples d h =
      let a = bind_ok (find into_u64_vec look tag.BitsPerSample) (depth_from samples) d h in
      depth_some_from samples a.0 d a.1.1

  -- the chunks are those that were counted
  counted_is : (width height planes : ℕ) (c x : Chunks)
      → chunks_counted width height planes c ≡ Ok x → c ≡ x
  unfolding chunks_counted
  counted_is width height planes c x h = (pick_yes c x _ _ h).1

  abbrev AreSome : Chunks → Type 0
  AreSome c = (0 < c.chunk_width) × (0 < c.chunk_height)

  module _ (width height planes : ℕ) where
    strips_some : (c : Chunks) → 0 < width → strips_in look width height planes ≡ Ok c → AreSome c
    unfolding strips_in
    strips_some c wide h =
        let table : List ℕ → List ℕ → ℕ → Chunks =
        λ offsets byte_counts rows. record { chunk_width = width; chunk_height = rows; offsets = offsets; byte_counts = byte_counts } in
        let last : List ℕ → List ℕ → ℕ → Result Chunks TiffError =
        λ offsets byte_counts rows. chunks_counted width height planes (table offsets byte_counts rows) in
        let tall : List ℕ → List ℕ → ℕ → Result Chunks TiffError =
        λ offsets byte_counts rows. some_rows rows >>= (λ _. last offsets byte_counts rows) in
        let third : List ℕ → List ℕ → Result Chunks TiffError =
        λ offsets byte_counts. find_or into_u32 look tag.RowsPerStrip height
        >>= (λ rows. tall offsets byte_counts rows) in
        let second : List ℕ → Result Chunks TiffError =
        λ offsets. require into_u64_vec look tag.StripByteCounts
        >>= (λ byte_counts. third offsets byte_counts) in
        let a = bind_ok (require into_u64_vec look tag.StripOffsets) second c h in
        let b = bind_ok (require into_u64_vec look tag.StripByteCounts) (third a.0) c a.1.1 in
        let d = bind_ok (find_or into_u32 look tag.RowsPerStrip height) (tall a.0 b.0) c b.1.1 in
        let e = bind_ok (some_rows d.0) (λ _. last a.0 b.0 d.0) c d.1.1 in
        let f = pick_no d.0 e.0 _ (d.0 == 0) e.1.0 in
        subst AreSome {x = table a.0 b.0 d.0} (counted_is width height planes (table a.0 b.0 d.0) c e.1.1) (wide, some_of d.0 f.0)

    tiles_some : (c : Chunks) → tiles_in look width height planes ≡ Ok c → AreSome c
    unfolding tiles_in
    tiles_some c h =
        let table : ℕ → ℕ → List ℕ → List ℕ → Chunks =
        λ w t offsets byte_counts. record { chunk_width = w; chunk_height = t; offsets = offsets; byte_counts = byte_counts } in
        let last : ℕ → ℕ → List ℕ → List ℕ → Result Chunks TiffError =
        λ w t offsets byte_counts. chunks_counted width height planes (table w t offsets byte_counts) in
        let sixth : ℕ → ℕ → List ℕ → Result Chunks TiffError =
        λ w t offsets. require into_u64_vec look tag.TileByteCounts
        >>= (λ byte_counts. last w t offsets byte_counts) in
        let fifth : ℕ → ℕ → Result Chunks TiffError =
        λ w t. require into_u64_vec look tag.TileOffsets >>= (λ offsets. sixth w t offsets) in
        let fourth : ℕ → ℕ → Result Chunks TiffError =
        λ w t. some_side t (FormatError (InvalidTagValueType tag.TileLength))
        >>= (λ _. fifth w t) in
        let third : ℕ → ℕ → Result Chunks TiffError =
        λ w t. some_side w (FormatError (InvalidTagValueType tag.TileWidth))
        >>= (λ _. fourth w t) in
        let second : ℕ → Result Chunks TiffError =
        λ w. require into_u32 look tag.TileLength >>= (λ t. third w t) in
        let a = bind_ok (require into_u32 look tag.TileWidth) second c h in
        let b = bind_ok (require into_u32 look tag.TileLength) (third a.0) c a.1.1 in
        let d =
        bind_ok (some_side a.0 (FormatError (InvalidTagValueType tag.TileWidth)))
        (λ _. fourth a.0 b.0) c b.1.1 in
        let e =
        bind_ok (some_side b.0 (FormatError (InvalidTagValueType tag.TileLength)))
        (λ _. fifth a.0 b.0) c d.1.1 in
        let f = bind_ok (require into_u64_vec look tag.TileOffsets) (sixth a.0 b.0) c e.1.1 in
        let g = bind_ok (require into_u64_vec look tag.TileByteCounts) (last a.0 b.0 f.0) c f.1.1 in
        let i = pick_no a.0 d.0 _ (a.0 == 0) d.1.0 in
        let j = pick_no b.0 e.0 _ (b.0 == 0) e.1.0 in
        subst AreSome {x = table a.0 b.0 f.0 g.0} (counted_is width height planes (table a.0 b.0 f.0 g.0) c g.1.1) (some_of a.0 i.0, some_of b.0 j.0)

    chunks_some : (which : ChunkType) (c : Chunks) → 0 < width
        → chunks_in look which width height planes ≡ Ok c → AreSome c
    chunks_some Strip c wide h = strips_some c wide h
    chunks_some Tile c wide h = tiles_some c h

-- ---- the page

pub page_has_sides : PageHasSides
page_has_sides look p given =
    let passed = passed_checks look p given in
    let s = size_some look (p.width, p.height) passed.size in
    let c =
    chunks_some look p.width p.height (planes_of p.planar p.samples) p.chunk_type _ s.0 passed.chunks in (
      record { wide = s.0; high = s.1; chunk_wide = c.0; chunk_high = c.1 },
      record { sampled = samples_some look p.samples passed.samples; has_bits = depth_some look p.samples p.depth passed.depth },
    )

pub page_has_method : PageHasMethod
page_has_method look p given = (passed_checks look p given).method
