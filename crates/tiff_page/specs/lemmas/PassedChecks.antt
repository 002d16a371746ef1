-- A page that the tags define passed its checks, and tags that pass each check of a page define it.
use Rattle.std.proofs.Common.{◌≡◌, Ok, refl, subst, ℕ, Option, None, Some, Result, Err, sym}
use Rattle.std.specs.Prelude.{⊤}
use Rattle.tiff_base.specs.lemmas.Common.{bind_ok}
use Rattle.tiff_base.specs.declared.error.TiffError.{TiffError}
use Rattle.tiff_ifd.specs.TagLookup.{TagLookup, find, if_found, ok_or_fault, require}
use Rattle.tiff_page.specs.Checks.{size_in, interpretation_in, method_in, samples_in, extra_in, format_in, depth_in, predictor_in, planar_in, subsampling_in, chunk_type_in, chunks_counted, strips_in, tiles_in, chunks_in, page_of, PassedChecks, PageHasPassed}
use Rattle.tiff_page.specs.Counts.{planes_of}
use Rattle.tiff_page.specs.Page.{PageRecord}
use Rattle.tiff_base.specs.declared.error.TiffError.TheVariants.{FormatError, OutOfMemory}
use Rattle.tiff_base.specs.declared.error.TiffFormatError.TheVariants.{RequiredTagNotFound}
use Rattle.tiff_base.specs.declared.tags.Tag.{Tag}
use Rattle.tiff_base.specs.declared.tags.Tag.TheVariants as tag
use Rattle.tiff_base.specs.Answers.{◌>>=◌}
use Rattle.tiff_base.specs.Sparing.{IsFoundWithin, IsListFault, IsOkOrList}
use Rattle.tiff_ifd.specs.PlainValue.{PlainValue}
use Rattle.tiff_ifd.specs.Into.{into_u32}
use Rattle.tiff_page.specs.Layout.{LayoutRecord, color_of, layout_of}
use Rattle.tiff_page.specs.Buffers.{planes_layout}
use Rattle.tiff_page.specs.EarlyFaults.{AllocatesAfter}

abbrev pub good : {A : Type 0} → A → Result A TiffError
good x = Ok x

pub ok_is : {A : Type 0} (x y : A) → good x ≡ good y → x ≡ y
ok_is x y h = cc

pub passed_checks : PageHasPassed
unfolding page_of
passed_checks look p given =
    let size = bind_ok (size_in look) _ p given in
    let interpretation = bind_ok (interpretation_in look) _ p size.1.1 in
    let method = bind_ok (method_in look) _ p interpretation.1.1 in
    let samples = bind_ok (samples_in look) _ p method.1.1 in
    let extra = bind_ok (extra_in look samples.0) _ p samples.1.1 in
    let format = bind_ok (format_in look) _ p extra.1.1 in
    let depth = bind_ok (depth_in look samples.0) _ p format.1.1 in
    let predictor = bind_ok (predictor_in look) _ p depth.1.1 in
    let planar = bind_ok (planar_in look) _ p predictor.1.1 in
    let subsampling = bind_ok (subsampling_in look) _ p planar.1.1 in
    let chunk_type = bind_ok (chunk_type_in look) _ p subsampling.1.1 in
    let chunks =
    bind_ok (chunks_in look chunk_type.0 size.0.0 size.0.1 (planes_of planar.0 samples.0)) _ p chunk_type.1.1 in
    subst (λ (x : PageRecord). PassedChecks look x) (ok_is _ p chunks.1.1) (record {
      size = size.1.0;
      interpretation = interpretation.1.0;
      method = method.1.0;
      samples = samples.1.0;
      extra = extra.1.0;
      format = format.1.0;
      depth = depth.1.0;
      predictor = predictor.1.0;
      planar = planar.1.0;
      subsampling = subsampling.1.0;
      chunk_type = chunk_type.1.0;
      chunks = chunks.1.0;
    })

pub page_passed : (look : TagLookup) (p : PageRecord) → PassedChecks look p → page_of look ≡ Ok p
unfolding page_of
page_passed look p c =
    rw (c.size, c.interpretation, c.method, c.samples, c.extra, c.format)
    (rw (c.depth, c.predictor, c.planar, c.subsampling, c.chunk_type, c.chunks) refl)

-- what an answer unfolds to compute the checks of a page on literals
unfoldable pub checks_on_literals : ⊤
unfolding size_in interpretation_in method_in samples_in extra_in format_in depth_in predictor_in planar_in
    subsampling_in chunk_type_in chunks_counted strips_in tiles_in page_of
checks_on_literals = tt

-- ---- tags whose values were read are found

found_of : {A : Type 0} (into : PlainValue → Result A TiffError)
    (value : Result (Option PlainValue) TiffError) (x : A)
    → (value >>= if_found into) ≡ Ok (Some x) → IsFoundWithin value
found_of into (Ok (Some d)) x h = tt
found_of into (Ok None) x h = absurd (cc)
found_of into (Err e) x h = absurd (cc)

-- a number that was found
pub number_found : {A : Type 0} (into : PlainValue → Result A TiffError) (look : TagLookup)
    (tag : Tag) (x : A) → find into look tag ≡ Ok (Some x) → IsFoundWithin (look.value tag)
unfolding find
number_found into look tag x h = found_of into (look.value tag) x h

required_of : {A : Type 0} (into : PlainValue → Result A TiffError)
    (value : Result (Option PlainValue) TiffError) (e : TiffError) (x : A)
    → (value >>= if_found into >>= λ found. ok_or_fault found e) ≡ Ok x → IsFoundWithin value
required_of into (Ok (Some d)) e x h = tt
required_of into (Ok None) e x h = absurd (cc)
required_of into (Err f) e x h = absurd (cc)

-- a number of a required tag
pub required_found : {A : Type 0} (into : PlainValue → Result A TiffError) (look : TagLookup)
    (tag : Tag) (x : A) → require into look tag ≡ Ok x → IsFoundWithin (look.value tag)
unfolding require find
required_found into look tag x h =
    required_of into (look.value tag) (FormatError (RequiredTagNotFound tag)) x h

width_of : {A B : Type 0} (width : Result A TiffError) (next : A → Result B TiffError) (size : B)
    → (width >>= next) ≡ Ok size → (x : A) × (width ≡ Ok x)
width_of (Ok x) next size h = (x, λ i. Ok x)
width_of (Err e) next size h = absurd (cc)

-- the sides of a page, with its width
pub size_found : (look : TagLookup) (size : ℕ × ℕ) → size_in look ≡ Ok size
    → IsFoundWithin (look.value tag.ImageWidth)
unfolding size_in
size_found look size h =
    let width = width_of (require into_u32 look tag.ImageWidth) _ size h in
    required_found into_u32 look tag.ImageWidth width.0 width.1

-- ---- computing a layout runs out of memory only for an error that contains a list

-- an error that contains a list is the error of all steps after it
fault_kept : {A B : Type 0} (r : Result A TiffError) (next : A → Result B TiffError) → IsListFault r
    → IsListFault (r >>= next)
fault_kept (Ok x) next h = absurd h
fault_kept (Err e) next h = h

list_allowed : {A : Type 0} (r : Result A TiffError) → IsListFault r → IsOkOrList r
list_allowed (Ok x) h = absurd h
list_allowed (Err e) h = h

-- the error of a layout's color contains a list
pub layout_fault : (p : PageRecord) (width height : ℕ) → IsListFault (color_of p)
    → IsListFault (planes_layout p width height)
unfolding planes_layout layout_of
layout_fault p width height h = fault_kept _ _ (fault_kept (color_of p) _ h)

pub layout_wanted : {B : Type 0} (p : PageRecord) (width height : ℕ)
    (next : LayoutRecord → Result B TiffError) → IsListFault (color_of p)
    → IsOkOrList (planes_layout p width height >>= next)
layout_wanted p width height next h =
    list_allowed _ (fault_kept (planes_layout p width height) next (layout_fault p width height h))

pub laid_fault : {B : Type 0} (p : PageRecord) (width height : ℕ)
    (next : LayoutRecord → Result B TiffError) → IsListFault (color_of p)
    → IsListFault (planes_layout p width height >>= next)
laid_fault p width height next h =
    fault_kept (planes_layout p width height) next (layout_fault p width height h)

pub layout_of_fault : {B : Type 0} (p : PageRecord) (width height : ℕ)
    (next : LayoutRecord → Result B TiffError) → IsListFault (color_of p)
    → IsListFault (layout_of p width height >>= next)
unfolding layout_of
layout_of_fault p width height next h =
    fault_kept (layout_of p width height) next (fault_kept (color_of p) _ h)

-- a call may run out of memory if no error is found early
pub may_want : {X : Type 0} (early : Result (Unit {0}) TiffError) (result : Result X TiffError)
    → early ≡ Ok tt → AllocatesAfter early result
may_want early (Ok x) h = tt
may_want early (Err e) h =
    let P : Result (Unit {0}) TiffError → Type 0 =
    λ r. e ≡ OutOfMemory → IsOkOrList r in subst P (sym h) (λ m. tt)
