-- The plan of a page and its numbers.
use Rattle.std.proofs.Common.{◌≡◌, ℕ, ◌<◌, ◌^◌, ◌-◌, Bool, true, false, List, [], ◌∷◌, length, Option, None, Some, Result, Ok, Err, IfOk, IfSome, refl, ap, sym, subst, ◌∙◌}
use Rattle.std.specs.List.{slice_get}
use Rattle.std.specs.Prelude.{if◌then◌else◌, nat_lt}
use Rattle.std.proofs.lemmas.Bool.{lt-ltb}
use Rattle.tiff_base.specs.declared.color.ChunkType.{ChunkType}
use Rattle.tiff_base.specs.declared.color.ChunkType.TheVariants.{Strip, Tile}
use Rattle.tiff_base.specs.declared.error.TiffError.{TiffError}
use Rattle.tiff_base.specs.declared.error.TiffError.TheVariants.{FormatError, IoError}
use Rattle.tiff_base.specs.declared.error.TiffFormatError.TheVariants.{InvalidTypeForTag}
use Rattle.tiff_base.specs.declared.io.IoKind.TheVariants.{InvalidInput}
use Rattle.tiff_base.specs.declared.tags.ByteOrder.{ByteOrder}
use Rattle.tiff_base.specs.declared.tags.ByteOrder.TheVariants.{BigEndian, LittleEndian}
use Rattle.tiff_base.specs.declared.tags.CompressionMethod.{CompressionMethod}
use Rattle.tiff_base.specs.declared.tags.FileKind.{FileKind}
use Rattle.tiff_base.specs.declared.tags.FileKind.TheVariants.{Big, Classic}
use Rattle.tiff_base.specs.declared.tags.IfdPointer.{IfdPointer}
use Rattle.tiff_base.specs.declared.tags.SampleFormat.{SampleFormat}
use Rattle.tiff_base.specs.declared.tags.SampleFormat.TheVariants.{Uint}
use Rattle.tiff_base.specs.declared.tags.Tag.TheVariants as tag
use Rattle.tiff_base.specs.Answers.{◌>>=◌, Answers}
use Rattle.tiff_base.specs.Directory.{directory_at}
use Rattle.tiff_base.specs.Field.{DirectoryRecord, Field}
use Rattle.tiff_base.specs.Header.{Header, header_at}
use Rattle.tiff_base.specs.Tags.{method_number, method_of, format_number, format_of}
use Rattle.tiff_base.specs.Named.{NamesComeBack, NumbersComeBack}
use Rattle.tiff_base.specs.lemmas.Common.{bind_ok}
use Rattle.tiff_ifd.specs.declared.limits.Limits.{Limits}
use Rattle.tiff_ifd.specs.Limits.{unlimited}
use Rattle.tiff_ifd.specs.Chain.{Chain}
use Rattle.tiff_ifd.specs.Fitted.{fitted_numbers}
use Rattle.tiff_ifd.specs.Into.{into_u16, into_u64_vec}
use Rattle.tiff_ifd.specs.TagLookup.{TagLookup, find, find_or, look_in, ok_or_fault}
use Rattle.tiff_page.specs.declared.layout.BufferLayoutPreference.{BufferLayoutPreference}
use Rattle.tiff_page.specs.Buffers.{image_chunk_buffer_layout}
use Rattle.tiff_page.specs.Checks.{format_from, format_in, method_in, one_format, page_of}
use Rattle.tiff_page.specs.Page.{PageRecord}
use Rattle.tiff_page.specs.PixelCalls.{read_chunk_bytes}
use Rattle.tiff_page.specs.lemmas.PassedChecks.{good, ok_is, passed_checks}
use Rattle.tiff_decode.specs.DefaultLimits.{default_limits}
use Rattle.tiff_decode.specs.Machine.{Decoding}
use Rattle.tiff_decode.specs.Opened.{moved, opened_by, opened_of}
use Rattle.tiff_decode.specs.Outcome.{chain_from, end_fault, enter, entry_outcome, page_in, seek_outcome, seek_to_image, set_limits, show_directory, show_outcome, with_page}
use Rattle.tiff_decode.specs.Outcome as outcome
use Rattle.tiff_pages.specs.declared.plan.PagePlan.{PagePlan}
use Rattle.tiff_pages.specs.Plan as pages
use Rattle.tiff_pages.specs.Plan.{plan_in, plan_of, plan_with, IsPlanOf, PlansReadPages}
use Rattle.tiff_ffi.specs.declared.plan.PlannedPage.{PlannedPage}
use Rattle.tiff_ffi.specs.Calls as calls
use Rattle.tiff_ffi.specs.Calls.{chunk_number, chunks_from, decoder_at_page, order_number, page_outcome, page_reading, ChunkReading}
use Rattle.tiff_ffi.specs.Status.{status}
use Rattle.tiff_ffi.proofs.Delivered.{none}
use Rattle.tiff_ffi.proofs.Ranges.{ranges_alike, AreAlike}
use Rattle.tiff_ffi.specs.Plan.{chunk_type_named, depth_named, numbers_of, order_named, page_directory, page_offset, page_plan, plan_found, plan_from, plan_reading, plan_told, read_planned_chunk, read_planned_chunks, version_named, version_number, IsNamed, PlansComeBack, ReadsPage}

-- ---- a plan and its numbers

-- a step without an error
step : {A B : Type 0} (r : Result A TiffError) (f : A → Result B TiffError) (x : A)
    {y : Result B TiffError} → r ≡ Ok x → f x ≡ y → (r >>= f) ≡ y
step r f x h k = ap (λ (s : Result _ TiffError). s >>= f) h ∙ k

found : {A : Type 0} (o : Option A) (e : TiffError) (x : A) → o ≡ Some x → ok_or_fault o e ≡ Ok x
found o e x h = ap (λ (p : Option _). ok_or_fault p e) h

version_back : (kind : FileKind) → version_named (version_number kind) ≡ Ok kind
version_back Classic = refl
version_back Big = refl

order_back : (order : ByteOrder) → order_named (order_number order) ≡ Ok order
order_back LittleEndian = refl
order_back BigEndian = refl

chunks_back : (type : ChunkType) → chunk_type_named (chunk_number type) ≡ Ok type
chunks_back Strip = refl
chunks_back Tile = refl

depth_back : (n : ℕ) → n < 2 ^ 8 → depth_named n ≡ Ok n
depth_back n l =
    ap (λ (b : Bool). if b then Ok n else Err (IoError InvalidInput)) (lt-ltb n (2 ^ 8) l)

pub plans_come_back : NamesComeBack → PlansComeBack
unfolding numbers_of plan_from
plans_come_back back plan i =
    step _ _ plan.kind (version_back plan.kind)
    (step _ _ plan.order (order_back plan.order)
    (step _ _ plan.interpretation (found _ _ plan.interpretation (back.interpretations plan.interpretation))
    (step _ _ plan.first_extra (found _ _ plan.first_extra (back.extras plan.first_extra))
    (step _ _ plan.depth (depth_back plan.depth i.depth)
    (step _ _ plan.predictor (found _ _ plan.predictor (back.predictors plan.predictor))
    (step _ _ plan.planar (found _ _ plan.planar (back.planars plan.planar))
    (step _ _ plan.chunk_type (chunks_back plan.chunk_type)
    (step _ _ plan.offsets.field_type (found _ _ plan.offsets.field_type (back.types plan.offsets.field_type))
    (step _ _ plan.byte_counts.field_type (found _ _ plan.byte_counts.field_type (back.types plan.byte_counts.field_type))
    (λ t. Ok (record plan { method = i.method t; format = i.format t })))))))))))

-- ---- what a decoder at a page gives, by the page's directory

module _ {B : Type 0} (g : List ℕ → FileKind → ByteOrder → DirectoryRecord → PageRecord → Result B TiffError) where
  -- of a decoder's page
  abbrev told : Decoding → Result B TiffError
  told d = g d.bytes d.kind d.order d.state.directory d.state.page

  -- of a directory
  abbrev of_directory : List ℕ → FileKind × ByteOrder × DirectoryRecord → Result B TiffError
  of_directory file found =
      page_in found.0 found.1 file default_limits found.2 >>= g file found.0 found.1 found.2

  module _ (file : List ℕ) (header : Header) where
    abbrev d : Decoding
    d = opened_by file 0 header

    abbrev directory_then : Result DirectoryRecord TiffError → Result B TiffError
    directory_then r =
        (r >>= λ directory. Ok (header.kind, header.order, directory)) >>= of_directory file

    by_page : (pointer : Option IfdPointer) (more : Bool) (directory : DirectoryRecord)
        (r : Result PageRecord TiffError)
        → (moved d (with_page (record d.state { pointer = pointer; more = more }) directory r)
        >>= told) ≡ (r >>= g file header.kind header.order directory)
    by_page pointer more directory (Ok page) = refl
    by_page pointer more directory (Err e) = refl

    by_entry : (offset : ℕ) (r : Result DirectoryRecord TiffError)
        → (moved d (entry_outcome d offset r) >>= told) ≡ directory_then r
    by_entry offset (Ok directory) =
        by_page _ _ directory (page_in header.kind header.order file default_limits directory)
    by_entry offset (Err e) = refl

    by_show : (r : Result DirectoryRecord TiffError)
        → (moved d (show_outcome d r) >>= told) ≡ directory_then r
    by_show (Ok directory) =
        by_page _ _ directory (page_in header.kind header.order file default_limits directory)
    by_show (Err e) = refl

    abbrev offset_then : Result ℕ TiffError → Result B TiffError
    offset_then r =
        (r >>= λ offset. directory_at header.kind header.order file offset
        >>= λ directory. Ok (header.kind, header.order, directory)) >>= of_directory file

    by_seek : (o : Option ℕ) → (moved d (seek_outcome d o) >>= told)
        ≡ offset_then (ok_or_fault o (end_fault (chain_from header file).end))
    unfolding enter
    by_seek None = refl
    by_seek (Some offset) = by_entry offset (directory_at header.kind header.order file offset)

    by_number : (page : ℕ) (b : Bool)
        → (moved d (if b then seek_to_image d page else show_directory d (record { 0 = page - 2 ^ 63 })) >>= told)
        ≡ offset_then (if b then ok_or_fault (slice_get (chain_from header file).offsets page) (end_fault (chain_from header file).end) else Ok (page - 2 ^ 63))
    unfolding seek_to_image show_directory
    by_number page true = by_seek (slice_get (chain_from header file).offsets page)
    by_number page false = by_show (directory_at header.kind header.order file (page - 2 ^ 63))

  by_header : (file : List ℕ) (page : ℕ) (r : Result Header TiffError)
      → (((r >>= λ header. Ok (opened_by file 0 header)) >>= λ d. moved d (page_outcome d page))
      >>= told)
      ≡ ((r >>= λ header. page_offset header file page
      >>= λ offset. directory_at header.kind header.order file offset >>= λ directory. Ok (header.kind, header.order, directory)) >>= of_directory file)
  by_header file page (Ok header) = by_number file header page (nat_lt page (2 ^ 63))
  by_header file page (Err e) = refl

  at_page : (file : List ℕ) (page : ℕ)
      → (decoder_at_page file page >>= told) ≡ (page_directory file page >>= of_directory file)
  unfolding page_directory opened_of
  at_page file page = by_header file page (header_at file)

-- The chain ends by an error before the page.
pub unfound : (header : Header) (file : List ℕ) (page : ℕ) (offsets : List ℕ) (e : TiffError)
    → page < 2 ^ 63 → slice_get (chain_from header file).offsets page ≡ None
    → chain_from header file ≡ record { offsets = offsets; end = Some e }
    → page_offset header file page ≡ Err e
unfound header file page offsets e early absent ends =
    ap (λ b. if b
    then ok_or_fault (slice_get (chain_from header file).offsets page) (end_fault (chain_from header file).end)
    else Ok (page - 2 ^ 63)) (lt-ltb page (2 ^ 63) early)
    ∙ ap (λ o. ok_or_fault o (end_fault (chain_from header file).end)) absent
    ∙ ap (λ (c : Chain). Err (end_fault c.end)) ends

-- ---- the plan of a page

abbrev plan_given : List ℕ → FileKind → ByteOrder → DirectoryRecord → PageRecord
    → Result PlannedPage TiffError
plan_given file kind order directory p = plan_told (plan_of kind order directory p)

after_page : (kind : FileKind) (order : ByteOrder) (file : List ℕ) (directory : DirectoryRecord)
    (r : Result PageRecord TiffError)
    → (r >>= plan_given file kind order directory)
    ≡ ((r >>= λ p. Ok (plan_of kind order directory p)) >>= plan_told)
after_page kind order file directory (Ok p) = refl
after_page kind order file directory (Err e) = refl

after_directory : (file : List ℕ) (r : Result (FileKind × ByteOrder × DirectoryRecord) TiffError)
    → (r >>= of_directory plan_given file)
    ≡ ((r >>= λ found. plan_in found.0 found.1 file default_limits found.2) >>= plan_told)
unfolding plan_in
after_directory file (Ok found) =
    after_page found.0 found.1 file found.2 (page_in found.0 found.1 file default_limits found.2)
after_directory file (Err e) = refl

plan_is : (file : List ℕ) (page : ℕ) → (plan_found file page >>= plan_told) ≡ page_plan file page
unfolding plan_found page_plan
plan_is file page =
    sym (at_page plan_given file page ∙ after_directory file (page_directory file page))

-- the numbers of a plan, or the error of a page without one, or of no page
pub is_plan : (file : List ℕ) (page : ℕ) (plan : PagePlan) → plan_found file page ≡ Ok (Some plan)
    → page_plan file page ≡ Ok (numbers_of plan)
is_plan file page plan h = sym (plan_is file page) ∙ step _ _ (Some plan) h refl

pub no_plan : (file : List ℕ) (page : ℕ) → plan_found file page ≡ Ok None
    → page_plan file page ≡ Err (FormatError InvalidTypeForTag)
no_plan file page h = sym (plan_is file page) ∙ step _ _ None h refl

pub no_page : (file : List ℕ) (page : ℕ) (e : TiffError) → plan_found file page ≡ Err e
    → page_plan file page ≡ Err e
no_page file page e h =
    sym (plan_is file page) ∙ ap (λ (r : Result (Option PagePlan) TiffError). r >>= plan_told) h

-- ---- a chunk of a page

abbrev chunk_given : ℕ → List ℕ → List ℕ → FileKind → ByteOrder → DirectoryRecord → PageRecord
    → Result (List ℕ) TiffError
chunk_given chunk slice file kind order directory p =
    read_chunk_bytes file order p unlimited chunk slice

freed : (chunk : ℕ) (slice : List ℕ) (r : Result Decoding TiffError)
    → ((r >>= λ d. Ok (record d { state = (set_limits d unlimited).next }))
    >>= λ d. (outcome.read_chunk_bytes d chunk slice).answer)
    ≡ (r >>= λ d. read_chunk_bytes d.bytes d.order d.state.page unlimited chunk slice)
unfolding set_limits outcome.read_chunk_bytes
freed chunk slice (Ok d) = refl
freed chunk slice (Err e) = refl

-- of a page whose directory is found
chunk_is : (file : List ℕ) (page : ℕ) (kind : FileKind) (order : ByteOrder)
    (directory : DirectoryRecord) (p : PageRecord) (chunk : ℕ) (slice : List ℕ)
    → page_directory file page ≡ Ok (kind, order, directory)
    → page_in kind order file default_limits directory ≡ Ok p
    → calls.read_chunk_bytes file page chunk slice
    ≡ read_chunk_bytes file order p unlimited chunk slice
chunk_is file page kind order directory p chunk slice h k =
    freed chunk slice (decoder_at_page file page) ∙ at_page (chunk_given chunk slice) file page
    ∙ step _ _ (kind, order, directory) h (step _ _ p k refl)

-- ---- several chunks of a page

-- the chunks of a page under no limits
abbrev reading_of : List ℕ → ByteOrder → PageRecord → ChunkReading
reading_of file order p = record {
  len_of = λ i. image_chunk_buffer_layout p i >>= λ layout. Ok layout.len;
  read = read_chunk_bytes file order p unlimited;
}

abbrev range_given : ℕ → ℕ → List ℕ → List ℕ → FileKind → ByteOrder → DirectoryRecord → PageRecord
    → Result (List ℕ) TiffError
range_given first count slice file kind order directory p =
    chunks_from (reading_of file order p) first count slice

range_freed : (first count : ℕ) (slice : List ℕ) (r : Result Decoding TiffError)
    → ((r >>= λ d. Ok (record d { state = (set_limits d unlimited).next }))
    >>= λ d. chunks_from (page_reading d) first count slice)
    ≡ (r >>= λ d. chunks_from (reading_of d.bytes d.order d.state.page) first count slice)
unfolding set_limits outcome.read_chunk_bytes outcome.image_chunk_buffer_layout
range_freed first count slice (Ok d) = refl
range_freed first count slice (Err e) = refl

-- of a page whose directory is found
range_is : (file : List ℕ) (page : ℕ) (kind : FileKind) (order : ByteOrder)
    (directory : DirectoryRecord) (p : PageRecord) (first count : ℕ) (slice : List ℕ)
    → page_directory file page ≡ Ok (kind, order, directory)
    → page_in kind order file default_limits directory ≡ Ok p
    → calls.read_chunks file page first count slice
    ≡ chunks_from (reading_of file order p) first count slice
range_is file page kind order directory p first count slice h k =
    range_freed first count slice (decoder_at_page file page)
    ∙ at_page (range_given first count slice) file page
    ∙ step _ _ (kind, order, directory) h (step _ _ p k refl)

-- ---- the plan of a page has named methods

-- the byte order of a plan that was found
order_found : (kind : FileKind) (order : ByteOrder) (p : PageRecord) (plan : PagePlan)
    (a b : Option Field) → pages.plan_found kind order p a b ≡ Some plan → plan.order ≡ order
order_found kind order p plan None b h = absurd (cc)
order_found kind order p plan (Some a) None h = absurd (cc)
order_found kind order p plan (Some a) (Some b) h =
    let same : plan_with kind order p a b ≡ plan = cc in
    sym (ap (λ (k : PagePlan). k.order) same)

order_is : (kind : FileKind) (order : ByteOrder) (directory : DirectoryRecord) (p : PageRecord)
    (plan : PagePlan) → plan_of kind order directory p ≡ Some plan → plan.order ≡ order
unfolding plan_of
order_is kind order directory p plan h = order_found kind order p plan _ _ h

-- what a number names has a number that names it
kept : {A : Type 0} (of : ℕ → A) (number : A → ℕ) → ((n : ℕ) → number (of n) ≡ n) → (n : ℕ) (x : A)
    → good (of n) ≡ good x → of (number x) ≡ x
kept of number back n x h =
    let same : of n ≡ x = ok_is _ x h in
    subst (λ y. of (number y) ≡ y) same (ap of (back n))

module _ (back : NumbersComeBack) where
  method_is : (look : TagLookup) (m : CompressionMethod) → method_in look ≡ Ok m
      → method_of (method_number m) ≡ m
  unfolding method_in
  method_is look m h =
      let number =
      bind_ok (find_or into_u16 look tag.Compression 1) (λ number. Ok (method_of number)) m h in
      kept method_of method_number back.methods number.0 m number.1.1

  format_chosen : (b : Bool) (n : ℕ) (e : TiffError) (f : SampleFormat)
      → (if b then Ok (format_of n) else Err e) ≡ Ok f → format_of (format_number f) ≡ f
  format_chosen true n e f h = kept format_of format_number back.formats n f h
  format_chosen false n e f h = absurd (cc)

  one_kept : (numbers : List ℕ) (f : SampleFormat) → one_format numbers ≡ Ok f
      → format_of (format_number f) ≡ f
  one_kept [] f h = absurd (cc)
  one_kept (n ∷ ns) f h = format_chosen _ n _ f h

  uint_kept : format_of 1 ≡ Uint
  unfolding format_of
  uint_kept = refl

  from_kept : (found : Option (List ℕ)) (f : SampleFormat) → format_from found ≡ Ok f
      → format_of (format_number f) ≡ f
  from_kept None f h = kept format_of format_number back.formats 1 f (ap good uint_kept ∙ h)
  from_kept (Some numbers) f h =
      let formats =
      bind_ok (fitted_numbers tag.SampleFormat (2 ^ 16) numbers) one_format f h in
      one_kept formats.0 f formats.1.1

  format_is : (look : TagLookup) (f : SampleFormat) → format_in look ≡ Ok f
      → format_of (format_number f) ≡ f
  unfolding format_in
  format_is look f h =
      let found =
      bind_ok (find into_u64_vec look tag.SampleFormat) format_from f h in
      from_kept found.0 f found.1.1

  named : (look : TagLookup) (plan : PagePlan) (file : List ℕ) (limits : Limits) (p : PageRecord)
      → page_of look ≡ Ok p → IsPlanOf plan file limits p → plan.depth < 2 ^ 8 → IsNamed plan
  named look plan file limits p h i deep =
      let passed = passed_checks look p h in
      let method : p.method ≡ plan.method = sym (ap (λ (q : PageRecord). q.method) i.facts) in
      let format : p.format ≡ plan.format = sym (ap (λ (q : PageRecord). q.format) i.facts) in
      record {
        method =
            subst (λ (k : CompressionMethod). method_of (method_number k)
            ≡ k) method (method_is look p.method passed.method);
        format =
            subst (λ (k : SampleFormat). format_of (format_number k)
            ≡ k) format (format_is look p.format passed.format);
        depth = deep;
      }

-- ---- the law

page_found : (file : List ℕ) (kind : FileKind) (order : ByteOrder) (directory : DirectoryRecord)
    (plan : PagePlan)
    → plan_in kind order file default_limits directory ≡ Ok (Some plan)
    → (p : PageRecord) × ((page_in kind order file default_limits directory ≡ Ok p)
    × (plan_of kind order directory p ≡ Some plan))
unfolding plan_in
page_found file kind order directory plan h =
    let page =
    bind_ok (page_in kind order file default_limits directory) (λ p. Ok (plan_of kind order directory p)) (Some plan) h in
    let same : plan_of kind order directory page.0 ≡ Some plan = ok_is _ _ page.1.1 in
    (page.0, (page.1.0, same))

-- by the numbers of a page's plan chunks are read as they are read of the page
pub reads_page : (file : List ℕ) (page : ℕ) (kind : FileKind) (order : ByteOrder)
    (directory : DirectoryRecord) (plan : PagePlan)
    → NumbersComeBack → NamesComeBack → PlansReadPages → length file < 2 ^ 64 → plan.depth < 2 ^ 8
    → page_directory file page ≡ Ok (kind, order, directory)
    → plan_in kind order file default_limits directory ≡ Ok (Some plan)
    → ((p : PageRecord) → page_in kind order file default_limits directory ≡ Ok p
    → IsPlanOf plan file default_limits p)
    → ReadsPage file page (numbers_of plan)
unfolding read_planned_chunk read_planned_chunks
reads_page file page kind order directory plan numbers names law wide deep h found is =
    let p = page_found file kind order directory plan found in
    let i = is p.0 p.1.0 in
    let same : plan.order ≡ order = order_is kind order directory p.0 plan p.1.1 in
    let back =
    plans_come_back names plan (named numbers _ plan file default_limits p.0 p.1.0 i deep) in
    let read : (chunk : ℕ) (slice : List ℕ)
    → pages.read_planned file plan unlimited chunk slice
    ≡ read_chunk_bytes file order p.0 unlimited chunk slice
    = λ chunk slice. law.bytes plan file default_limits p.0 unlimited chunk slice wide i
    ∙ ap (λ (o : ByteOrder). read_chunk_bytes file o p.0 unlimited chunk slice) same in
    let alike : AreAlike (plan_reading file plan unlimited) (reading_of file order p.0) = record {
      len_of =
          λ k. ap (λ (r : Result BufferLayoutPreference TiffError). r
          >>= λ layout. Ok layout.len) (law.layout plan file default_limits p.0 k i);
      read = read;
    } in
    record {
      chunk =
          λ chunk slice. step _ _ plan back (read chunk slice
          ∙ sym (chunk_is file page kind order directory p.0 chunk slice h p.1.0));
      chunks =
          λ first count slice. step _ _ plan back (ranges_alike _ _ alike first count slice
          ∙ sym (range_is file page kind order directory p.0 first count slice h p.1.0));
    }

-- what the numbers that a call put read
pub given_reads : (file : List ℕ) (page : ℕ) (answer : Result PlannedPage TiffError) (n : ℕ)
    (new : PlannedPage)
    → IfOk answer (λ x. ReadsPage file page x) → n ≡ status answer → IfOk answer (λ x. new ≡ x)
    → n ≡ 0 → ReadsPage file page new
given_reads file page (Ok x) n new h is put zero = subst (ReadsPage file page) (sym put) h
given_reads file page (Err e) n new h is put zero = absurd (none e n is zero)

-- ---- what a plan that was found reads

found_by : (file : List ℕ) (page : ℕ) (kind : FileKind) (order : ByteOrder)
    (directory : DirectoryRecord) (answer : Result (Option PagePlan) TiffError) (before after : ℕ)
    → NumbersComeBack → NamesComeBack → PlansReadPages → length file < 2 ^ 64
    → page_directory file page ≡ Ok (kind, order, directory)
    → Answers (λ plan. plan) answer (plan_in kind order file default_limits directory) before after
    → IfOk answer (λ found. IfSome found (λ plan. (p : PageRecord)
    → page_of (look_in kind order file default_limits directory.entries) ≡ Ok p → IsPlanOf plan file default_limits p))
    → IfOk answer (λ found. IfSome found (λ plan. plan.depth < 2 ^ 8
    → ReadsPage file page (numbers_of plan)))
found_by file page kind order directory (Ok (Some plan)) before after numbers names law wide h found is =
    λ deep. reads_page file page kind order directory plan numbers names law wide deep h found is
found_by file page kind order directory (Ok None) before after numbers names law wide h found is =
    tt
found_by file page kind order directory (Err e) before after numbers names law wide h found is = tt

pub found_reads : (file bytes : List ℕ) (page : ℕ) (kind : FileKind) (order : ByteOrder)
    (directory : DirectoryRecord) (limits : Limits) (answer : Result (Option PagePlan) TiffError)
    (before after : ℕ)
    → NumbersComeBack → NamesComeBack → PlansReadPages → length file < 2 ^ 64 → bytes ≡ file
    → limits ≡ default_limits → page_directory file page ≡ Ok (kind, order, directory)
    → Answers (λ plan. plan) answer (plan_in kind order bytes limits directory) before after
    → IfOk answer (λ found. IfSome found (λ plan. (p : PageRecord)
    → page_of (look_in kind order bytes limits directory.entries) ≡ Ok p → IsPlanOf plan bytes limits p))
    → IfOk answer (λ found. IfSome found (λ plan. plan.depth < 2 ^ 8
    → ReadsPage file page (numbers_of plan)))
found_reads file bytes page kind order directory limits answer before after numbers names law wide same given h =
    let P : List ℕ → Limits → Type 0 =
    λ b l. Answers (λ plan. plan) answer (plan_in kind order b l directory) before after
    → IfOk answer (λ found. IfSome found (λ plan. (p : PageRecord)
    → page_of (look_in kind order b l directory.entries) ≡ Ok p → IsPlanOf plan b l p))
    → IfOk answer (λ found. IfSome found (λ plan. plan.depth < 2 ^ 8
    → ReadsPage file page (numbers_of plan))) in
    subst (λ b. P b limits) (sym same) (subst (λ l. P file l) (sym given) (found_by file page kind order directory answer before after numbers names law wide h))

-- the numbers of a plan that was found
pub told_reads : (file : List ℕ) (page : ℕ) (plan : PagePlan) (n : PlannedPage)
    → (plan.depth < 2 ^ 8 → ReadsPage file page (numbers_of plan)) → plan.depth < 2 ^ 8
    → n ≡ numbers_of plan
    → ReadsPage file page n
told_reads file page plan n h deep same = subst (ReadsPage file page) (sym same) (h deep)
