-- The plan of a directory is that of its page.
use Rattle.std.proofs.Common.{◌≡◌, ℕ, Bool, true, false, List, [], ◌∷◌, length, replicate, Option, None, Some, Ok, Err, refl, ap, sym, subst, ◌∙◌}
use Rattle.std.specs.FinMap.{get}
use Rattle.std.specs.List.{slice_get}
use Rattle.std.specs.Option.{IfSome}
use Rattle.std.specs.Prelude.{Result, unwrap_or, if◌then◌else◌}
use Rattle.tiff_base.specs.Answers.{◌>>=◌}
use Rattle.tiff_base.specs.Field.{DirectoryRecord, Field}
use Rattle.tiff_base.specs.Tags.{tag_number}
use Rattle.tiff_base.specs.declared.color.ChunkType.{ChunkType}
use Rattle.tiff_base.specs.declared.color.ChunkType.TheVariants.{Strip, Tile}
use Rattle.tiff_base.specs.declared.error.TiffError.{TiffError}
use Rattle.tiff_base.specs.declared.error.TiffError.TheVariants.{FormatError}
use Rattle.tiff_base.specs.declared.error.TiffFormatError.TheVariants.{RequiredTagNotFound}
use Rattle.tiff_base.specs.declared.tags.ByteOrder.{ByteOrder}
use Rattle.tiff_base.specs.declared.tags.ExtraSamples.{ExtraSamples}
use Rattle.tiff_base.specs.declared.tags.ExtraSamples.TheVariants.{Unspecified, AssociatedAlpha, UnassociatedAlpha}
use Rattle.tiff_base.specs.declared.tags.FileKind.{FileKind}
use Rattle.tiff_base.specs.declared.tags.Tag.{Tag}
use Rattle.tiff_base.specs.declared.tags.Tag.TheVariants as tag
use Rattle.tiff_ifd.specs.declared.limits.Limits.{Limits}
use Rattle.tiff_ifd.specs.FieldValue.{field_value}
use Rattle.tiff_ifd.specs.Into.{into_u32, into_u64_vec}
use Rattle.tiff_ifd.specs.OneNumber.{is_unsigned}
use Rattle.tiff_ifd.specs.PlainValue.{PlainValue}
use Rattle.tiff_ifd.specs.TagLookup.{TagLookup, find, find_or, if_found, look_in, ok_or_fault, require}
use Rattle.tiff_ifd.specs.Unsigned.{field_numbers}
use Rattle.tiff_page.specs.Checks.{chunks_counted, chunks_in, page_of, some_rows, some_side, strips_in, tiles_in}
use Rattle.tiff_page.specs.Counts.{planes_of}
use Rattle.tiff_page.specs.Layout.{first_is_alpha}
use Rattle.tiff_page.specs.Page.{Chunks, PageRecord}
use Rattle.tiff_page.specs.lemmas.PassedChecks.{passed_checks}
use Rattle.tiff_pages.specs.Plan.{byte_counts_tag, listed, offsets_tag, plan_found, plan_of, plan_with, IsPage, IsPlanOf}
use Rattle.tiff_pages.specs.declared.plan.PagePlan.{PagePlan}

-- a step without an error, and what follows it
passed : {A B : Type 0} (r : Result A TiffError) (f : A → Result B TiffError) {y : B}
    → (r >>= f) ≡ Ok y → (x : A) × ((r ≡ Ok x) × (f x ≡ Ok y))
passed (Ok x) f h = (x, (refl, h))
passed (Err e) f h = absurd (cc)

-- the numbers of a required tag are those of its field
module _ (numbers : List ℕ) (fault : TiffError) where
  of_numbers : (r : Result (List ℕ) TiffError)
      → ((r >>= λ y. Ok (Some y)) >>= λ found. ok_or_fault found fault) ≡ Ok numbers
      → r ≡ Ok numbers
  of_numbers (Ok n) h = h
  of_numbers (Err e) h = absurd (cc)

  of_value : (r : Result PlainValue TiffError)
      → (((r >>= λ y. Ok (Some y)) >>= λ found. if_found into_u64_vec found)
      >>= λ found. ok_or_fault found fault) ≡ Ok numbers
      → (r >>= into_u64_vec) ≡ Ok numbers
  of_value (Ok v) h = of_numbers (into_u64_vec v) h
  of_value (Err e) h = absurd (cc)

required : (kind : FileKind) (order : ByteOrder) (file : List ℕ) (limits : Limits)
    (directory : DirectoryRecord) (t : Tag) (f : Field) (numbers : List ℕ)
    → get directory.entries (tag_number t) ≡ Some f
    → require into_u64_vec (look_in kind order file limits directory.entries) t ≡ Ok numbers
    → field_numbers kind order file limits f ≡ Ok numbers
unfolding require find look_in
required kind order file limits directory t f numbers g h =
    of_value numbers (FormatError (RequiredTagNotFound t)) (field_value kind order file limits f)
    (sym (ap (λ (o : Option Field). (if_found (field_value kind order file limits) o >>= λ found. if_found into_u64_vec found) >>= λ found. ok_or_fault found (FormatError (RequiredTagNotFound t))) g) ∙ h)

-- the lists of a page are those of its tags
counted_same : (b : Bool) (chunks c : Chunks) (e : TiffError)
    → (if b then Ok chunks else Err e) ≡ Ok c → chunks ≡ c
counted_same true chunks c e h = cc
counted_same false chunks c e h = absurd (cc)

module _ (look : TagLookup) (width height planes : ℕ) (c : Chunks) where
  of_strips : strips_in look width height planes ≡ Ok c
      → (require into_u64_vec look tag.StripOffsets ≡ Ok c.offsets)
      × (require into_u64_vec look tag.StripByteCounts ≡ Ok c.byte_counts)
  unfolding strips_in chunks_counted
  of_strips h =
      let a = passed (require into_u64_vec look tag.StripOffsets) _ h in
      let b = passed (require into_u64_vec look tag.StripByteCounts) _ a.1.1 in
      let r = passed (find_or into_u32 look tag.RowsPerStrip height) _ b.1.1 in
      let s = passed (some_rows r.0) _ r.1.1 in
      let same = counted_same _ _ c _ s.1.1 in
      (a.1.0 ∙ ap (λ (k : Chunks). Ok k.offsets) same, b.1.0 ∙ ap (λ (k : Chunks). Ok k.byte_counts) same)

  of_tiles : tiles_in look width height planes ≡ Ok c
      → (require into_u64_vec look tag.TileOffsets ≡ Ok c.offsets)
      × (require into_u64_vec look tag.TileByteCounts ≡ Ok c.byte_counts)
  unfolding tiles_in chunks_counted
  of_tiles h =
      let w = passed (require into_u32 look tag.TileWidth) _ h in
      let l = passed (require into_u32 look tag.TileLength) _ w.1.1 in
      let some_width = passed (some_side w.0 _) _ l.1.1 in
      let some_height = passed (some_side l.0 _) _ some_width.1.1 in
      let a = passed (require into_u64_vec look tag.TileOffsets) _ some_height.1.1 in
      let b = passed (require into_u64_vec look tag.TileByteCounts) _ a.1.1 in
      let same = counted_same _ _ c _ b.1.1 in
      (a.1.0 ∙ ap (λ (k : Chunks). Ok k.offsets) same, b.1.0 ∙ ap (λ (k : Chunks). Ok k.byte_counts) same)

  of_chunks : (type : ChunkType) → chunks_in look type width height planes ≡ Ok c
      → (require into_u64_vec look (offsets_tag type) ≡ Ok c.offsets)
      × (require into_u64_vec look (byte_counts_tag type) ≡ Ok c.byte_counts)
  of_chunks Strip h = of_strips h
  of_chunks Tile h = of_tiles h

-- of the extra samples, only the first one's meaning matters
alpha_same : (extra : List ExtraSamples)
    → first_is_alpha (replicate (length extra) (unwrap_or (slice_get extra 0) Unspecified))
    ≡ first_is_alpha extra
alpha_same [] = refl
alpha_same (Unspecified ∷ xs) = refl
alpha_same (AssociatedAlpha ∷ xs) = refl
alpha_same (UnassociatedAlpha ∷ xs) = refl

pub is_plan : (kind : FileKind) (order : ByteOrder) (file : List ℕ) (limits : Limits)
    (directory : DirectoryRecord) (p : PageRecord) (a b : Field)
    → IsPage p → page_of (look_in kind order file limits directory.entries) ≡ Ok p
    → get directory.entries (tag_number (offsets_tag p.chunk_type)) ≡ Some a
    → get directory.entries (tag_number (byte_counts_tag p.chunk_type)) ≡ Some b
    → is_unsigned a.field_type ≡ true → is_unsigned b.field_type ≡ true → length a.value ≡ 8
    → length b.value ≡ 8
    → IsPlanOf (plan_with kind order p a b) file limits p
is_plan kind order file limits directory p a b page h ga gb ua ub wa wb =
    let look = look_in kind order file limits directory.entries in
    let passed = passed_checks look p h in
    let lists =
    of_chunks look p.width p.height (planes_of p.planar p.samples) _ p.chunk_type passed.chunks in
    record {
      page = page;
      facts = refl;
      extras = refl;
      alpha = alpha_same p.extra;
      offsets =
          record { unsigned = ua; whole = wa; has = required kind order file limits directory (offsets_tag p.chunk_type) a p.offsets ga lists.0 };
      byte_counts =
          record { unsigned = ub; whole = wb; has = required kind order file limits directory (byte_counts_tag p.chunk_type) b p.byte_counts gb lists.1 };
    }

-- the fields of a plan that was found
listed_by : (b : Bool) (g f : Field) → is_unsigned g.field_type ≡ b
    → (if b then Some g else None) ≡ Some f → (g ≡ f) × (is_unsigned f.field_type ≡ true)
listed_by true g f u h =
    let same : g ≡ f = cc in (same, ap (λ (k : Field). is_unsigned k.field_type) (sym same) ∙ u)
listed_by false g f u h = absurd (cc)

listed_is : (o : Option Field) (f : Field) → listed o ≡ Some f
    → (o ≡ Some f) × (is_unsigned f.field_type ≡ true)
listed_is None f h = absurd (cc)
listed_is (Some g) f h =
    let is = listed_by (is_unsigned g.field_type) g f refl h in (ap Some is.0, is.1)

found_is : (kind : FileKind) (order : ByteOrder) (p : PageRecord) (plan : PagePlan)
    (oa ob : Option Field) → plan_found kind order p oa ob ≡ Some plan
    → (oa ≡ Some plan.offsets) × ((ob ≡ Some plan.byte_counts)
    × (plan_with kind order p plan.offsets plan.byte_counts ≡ plan))
found_is kind order p plan None ob h = absurd (cc)
found_is kind order p plan (Some a) None h = absurd (cc)
found_is kind order p plan (Some a) (Some b) h =
    let same : plan_with kind order p a b ≡ plan = cc in
    let offsets : a ≡ plan.offsets = ap (λ (k : PagePlan). k.offsets) same in
    let byte_counts : b ≡ plan.byte_counts = ap (λ (k : PagePlan). k.byte_counts) same in
    (ap Some offsets, (ap Some byte_counts, (λ t. plan_with kind order p (sym offsets t) (sym byte_counts t)) ∙ same))

pub plan_is : (kind : FileKind) (order : ByteOrder) (file : List ℕ) (limits : Limits)
    (directory : DirectoryRecord) (p : PageRecord) (plan : PagePlan)
    → plan_of kind order directory p ≡ Some plan → IsPage p → length plan.offsets.value ≡ 8
    → length plan.byte_counts.value ≡ 8
    → page_of (look_in kind order file limits directory.entries) ≡ Ok p
    → IsPlanOf plan file limits p
unfolding plan_of
plan_is kind order file limits directory p plan h page wa wb e =
    let found = found_is kind order p plan _ _ h in
    let a = listed_is _ plan.offsets found.0 in
    let b = listed_is _ plan.byte_counts found.1.0 in
    subst (λ (k : PagePlan). IsPlanOf k file limits p) found.1.1
    (is_plan kind order file limits directory p plan.offsets plan.byte_counts page e a.0 b.0 a.1 b.1 wa wb)

-- the plan that was found for the page of a directory is that of the page
pub plan_told : (found : Option PagePlan) (kind : FileKind) (order : ByteOrder) (file : List ℕ)
    (limits : Limits) (old new : DirectoryRecord) (q : PageRecord)
    → new ≡ old → page_of (look_in kind order file limits old.entries) ≡ Ok q
    → IfSome found (λ plan. (file : List ℕ) (limits : Limits)
    → page_of (look_in kind order file limits new.entries) ≡ Ok q → IsPlanOf plan file limits q)
    → IfSome found (λ plan. (p : PageRecord) → page_of (look_in kind order file limits old.entries)
    ≡ Ok p → IsPlanOf plan file limits p)
plan_told None kind order file limits old new q same e h = tt
plan_told (Some plan) kind order file limits old new q same e h = λ p f.
    let both : Ok q ≡ Ok p = sym e ∙ f in
    let one : q ≡ p = cc in
    let here : page_of (look_in kind order file limits new.entries) ≡ Ok q =
    ap (λ (d : DirectoryRecord). page_of (look_in kind order file limits d.entries)) same ∙ e in
    subst (λ (k : PageRecord). IsPlanOf plan file limits k) one (h file limits here)
