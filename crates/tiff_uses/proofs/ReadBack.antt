-- An image that was written behind a header, and read back.
use Rattle.std.proofs.Common.{◌≡◌, ℕ, ◌+◌, ◌*◌, ◌<◌, ◌⊎◌, List, length, Option, None, Some, Result, Ok, Err, IfOk, refl, ap, sym, ◌∙◌, subst, inl, inr, lit<}
use Rattle.std.specs.Prelude.{get_or}
use Rattle.std.proofs.lemmas.Option.{slice_get_within}
use Rattle.std.specs.List.{slice_get}
use Rattle.tiff_base.specs.declared.error.TiffError.{TiffError}
use Rattle.tiff_base.specs.declared.tags.ByteOrder.{ByteOrder}
use Rattle.tiff_base.specs.declared.tags.ByteOrder.TheVariants.{LittleEndian}
use Rattle.tiff_base.specs.Answers.{◌>>=◌}
use Rattle.tiff_base.specs.Directory.{directory_at}
use Rattle.tiff_base.specs.Field.{DirectoryRecord}
use Rattle.tiff_base.specs.Header.{Header}
use Rattle.tiff_base.specs.declared.tags.SampleFormat.TheVariants.{Void}
use Rattle.tiff_value.specs.declared.encoder.colortype.ColorTypeName.{ColorTypeName}
use Rattle.tiff_value.specs.declared.encoder.colortype.ColorTypeName.TheVariants.{Gray1, Gray2, Gray4, Gray8}
use Rattle.tiff_value.specs.ColorType.{ColorTypeRecord, columns_of}
use Rattle.tiff_value.specs.ColorTypes.{color_type, format_of_type, inner_size, inner_type}
use Rattle.tiff_ifd.specs.declared.limits.Limits.{Limits}
use Rattle.tiff_ifd.specs.Limits.{unlimited}
use Rattle.tiff_page.specs.Layout.{sample_type_from, sample_type_of}
use Rattle.tiff_page.specs.Page.{PageRecord}
use Rattle.tiff_page.specs.Row.{IsSize}
use Rattle.tiff_page.specs.Image.{Decoded}
use Rattle.tiff_page.specs.PixelCalls.{image_of}
use Rattle.tiff_decode.specs.declared.result.DecodingResult.{DecodingResult}
use Rattle.tiff_decode.specs.Machine.{Decoding, Follows, GivesOutcome}
use Rattle.tiff_decode.specs.Result.{decoded_as}
use Rattle.tiff_decode.specs.Outcome.{chain_of, decoder_of, page_in, read_image, seek_to_image, set_limits}
use Rattle.tiff_laws.specs.Pages.{SameFile, WalkOpens, WalkSeeks}
use Rattle.tiff_value.specs.Model.{Model, header_link}
use Rattle.tiff_encode.specs.Machine.{FileState, OpenImage}
use Rattle.tiff_encode.specs.Chunks.{all_samples}
use Rattle.tiff_encode.specs.Shows.{Shows}
use Rattle.tiff_encode.specs.Causes.{end_of}
use Rattle.tiff_encode.specs.ImageData.{AreNumbers, FirstShown, LeavesImage, image_of_samples}
use Rattle.tiff_encode.specs.ReadsBack.{HasSamplesOf, ReadsShown, WrittenIsRead}
use Rattle.tiff_encode.proofs.Data.Begun.{new_is}
use Rattle.tiff_decode.specs.NextState.{view_of_result}
use Rattle.tiff_uses.specs.GrayFile.{WritesAlone}
use Rattle.tiff_uses.specs.Pages.{FileAnswers}
use Rattle.tiff_uses.specs.ReadBack.{AnswersBack, ComesBack, IsFirstImage, first_freely}

same_ok : {A : Type 0} (x y : A)
    → (let a : Result A TiffError = Ok x in let b : Result A TiffError = Ok y in a ≡ b) → x ≡ y
same_ok x y e = cc

same_some : (x y : ℕ) → (let a : Option ℕ = Some x in let b : Option ℕ = Some y in a ≡ b) → x ≡ y
same_some x y e = cc

-- A file was opened, its first page was sought without limits, and its image was read.
first_read : WalkOpens → WalkSeeks → (file : List ℕ) (opened free at : Decoding) (image : Decoded)
    → decoder_of file 0 ≡ Ok (record opened { readable = None; failures = 0 })
    → free ≡ record opened { state = (set_limits opened unlimited).next }
    → GivesOutcome (Ok tt) (seek_to_image free 0) free at
    → (read_image at).answer ≡ Ok image → IsFirstImage file image
unfolding read_image set_limits
first_read opens seeks file opened free at image h e s r =
    let o = opens file 0 (record opened { readable = None; failures = 0 }) h in
    let bytes : free.bytes ≡ file = ap (λ (d : Decoding). d.bytes) e ∙ o.bytes in
    let kind : free.kind ≡ opened.kind = ap (λ (d : Decoding). d.kind) e in
    let order : free.order ≡ opened.order = ap (λ (d : Decoding). d.order) e in
    let limits : free.state.limits ≡ unlimited = ap (λ (d : Decoding). d.state.limits) e in
    let first : slice_get (chain_of free).offsets 0 ≡ Some opened.first =
    ap (λ (d : Decoding). slice_get (chain_of d).offsets 0) e ∙ o.first in
    let same : SameFile free free =
    record { bytes = refl; kind = refl; order = refl; first = refl; limits = refl } in
    let a =
    seeks free free at 0 (Ok tt) same (slice_get_within (chain_of free).offsets 0 opened.first first) s in
    let offset : a.along.offset ≡ opened.first =
    same_some a.along.offset opened.first (sym a.along.is_offset ∙ first) in
    let header : Header = record { order = free.order; kind = free.kind; first = a.along.offset } in
    let D : List ℕ → Type 0 =
    λ b. directory_at free.kind free.order b a.along.offset ≡ Ok at.state.directory in
    let P : List ℕ → Limits → Type 0 =
    λ b l. page_in free.kind free.order b l at.state.directory ≡ Ok at.state.page in
    let I : List ℕ → ByteOrder → Limits → Type 0 =
    λ b q l. image_of b q at.state.page l ≡ Ok image in
    record {
      header = header;
      is_header =
          o.header ∙ (λ t. Ok (record { order = sym order t; kind = sym kind t; first = sym offset t }));
      directory = at.state.directory;
      is_directory = subst D bytes a.page.0;
      page = at.state.page;
      is_page = subst (λ l. P file l) limits (subst (λ b. P b free.state.limits) bytes a.page.1);
      is_image =
          subst (λ l. I file free.order l) (a.along.same.limits ∙ limits)
          (subst (λ q. I file q at.state.limits) a.along.same.order
          (subst (λ b. I b at.order at.state.limits) (a.along.same.bytes ∙ bytes) r));
    }

-- The result of the call that reads the image is that image.
pub image_is_first : WalkOpens → WalkSeeks
    → (file : List ℕ) (opened free at new : Decoding) (result : Result DecodingResult TiffError)
    → decoder_of file 0 ≡ Ok (record opened { readable = None; failures = 0 })
    → free ≡ record opened { state = (set_limits opened unlimited).next }
    → GivesOutcome (Ok tt) (seek_to_image free 0) free at
    → Follows decoded_as (read_image at) result at new
    → IfOk result (λ image. IsFirstImage file (decoded_as image))
image_is_first opens seeks file opened free at new (Ok image) h e s f =
    first_read opens seeks file opened free at (decoded_as image) h e s f.answer
image_is_first opens seeks file opened free at new (Err fault) h e s f = tt

-- ---- the type of the samples

-- the page has the sample type of the field type, also for bytes of packed pixels
first_type : (name : ColorTypeName)
    → sample_type_from (format_of_type (inner_type name)) (8 * inner_size name)
    ≡ sample_type_from (get_or (color_type name).formats 0 Void) (get_or (color_type name).bits 0 0)
unfolding color_type inner_type
first_type Gray8 = refl
first_type name = refl

first_depth : (name : ColorTypeName)
    → (get_or (color_type name).bits 0 0 ≡ 8 * inner_size name)
    ⊎ ((get_or (color_type name).bits 0 0 < 8) × (inner_size name ≡ 1))
unfolding color_type inner_type
first_depth Gray1 = inr (lit< tt, refl)
first_depth Gray2 = inr (lit< tt, refl)
first_depth Gray4 = inr (lit< tt, refl)
first_depth name = inl refl

some_size : (name : ColorTypeName) → IsSize (inner_size name)
unfolding inner_type
some_size Gray8 = inl refl
some_size name = search (inl, inr)

-- The image has the sample type of the field type of the samples.
type_is : ReadsShown → (color : ColorTypeRecord) (size width height : ℕ) (samples : List ℕ)
    (old new : FileState) (m : Model)
    → (l : LeavesImage color size width height samples old new m)
    → (name : ColorTypeName) (offset : ℕ) (image : Decoded)
    → (s : Shows old.kind new.bytes offset (image_of_samples l.image samples))
    → color ≡ color_type name → size ≡ inner_size name
    → AreNumbers size samples → image_of new.bytes LittleEndian s.page unlimited ≡ Ok image
    → sample_type_from (format_of_type (inner_type name)) (8 * inner_size name)
    ≡ Ok image.sample_type
unfolding sample_type_of
type_is reads color size width height samples old new m l name offset image s c z small read =
    let i = l.image in
    let n = new_is color size width height old i l.begun.answer in
    let tint : i.color ≡ color_type name = sym (ap (λ (j : OpenImage). j.color) n.1.0) ∙ c in
    let D : ColorTypeRecord → ℕ → Type 0 =
    λ k n. (get_or k.bits 0 0 ≡ 8 * n) ⊎ ((get_or k.bits 0 0 < 8) × (n ≡ 1)) in
    let has : HasSamplesOf (image_of_samples i samples) size = record {
      is_size = subst IsSize (sym z) (some_size name);
      depth =
          subst (λ k. D k size) (sym tint) (subst (D (color_type name)) (sym z) (first_depth name));
      small = λ x y k. small ((y * i.width + x) * all_samples i + k);
    } in
    first_type name
    ∙ ap (λ (k : ColorTypeRecord). sample_type_from (get_or k.formats 0 Void) (get_or k.bits 0 0)) (sym tint)
    ∙ ap (λ (q : PageRecord). sample_type_from q.format q.depth) (sym s.is_image)
    ∙ (reads old.kind new.bytes offset (image_of_samples i samples) size unlimited image s has read).1

-- The samples of the image are those of the image that was written behind the header.
comes_back : FirstShown → ReadsShown → WrittenIsRead
    → (color : ColorTypeRecord) (size width height : ℕ) (samples : List ℕ) (old new : FileState) (m : Model)
    → LeavesImage color size width height samples old new m → (name : ColorTypeName)
    → color ≡ color_type name → size ≡ inner_size name
    → AreNumbers size samples → old.chain ≡ header_link old.kind → 0 < end_of old
    → (file : List ℕ) (image : Decoded) → file ≡ new.bytes
    → IsFirstImage file image → ComesBack (inner_type name) (columns_of color width) height
    (length color.bits) samples image
comes_back shown_first shows_read is_read color size width height samples old new m l name c s small chain some file image is_file read =
    let shown = shown_first color size width height samples old new m chain some l name c s in
    let f : IsFirstImage new.bytes image = subst (λ b. IsFirstImage b image) is_file read in
    let first : Header = record { order = LittleEndian; kind = old.kind; first = shown.offset } in
    let same : f.header ≡ first = same_ok f.header first (sym f.is_header ∙ shown.first) in
    let directory : directory_at old.kind LittleEndian new.bytes shown.offset ≡ Ok f.directory =
    subst (λ (h : Header). directory_at h.kind h.order new.bytes h.first
    ≡ Ok f.directory) same f.is_directory in
    let page : page_in old.kind LittleEndian new.bytes unlimited f.directory ≡ Ok f.page =
    subst (λ (h : Header). page_in h.kind h.order new.bytes unlimited f.directory
    ≡ Ok f.page) same f.is_page in
    let told =
    ap (λ (r : Result DirectoryRecord TiffError). r
    >>= λ x. page_in old.kind LittleEndian new.bytes unlimited x) directory ∙ page in
    let page_is : f.page ≡ shown.shows.page =
    same_ok f.page shown.shows.page (sym told ∙ shown.shows.is_page) in
    let at_first : image_of new.bytes LittleEndian f.page unlimited ≡ Ok image =
    subst (λ (h : Header). image_of new.bytes h.order f.page unlimited
    ≡ Ok image) same f.is_image in
    let image_is : image_of new.bytes LittleEndian shown.shows.page unlimited ≡ Ok image =
    subst (λ (p : PageRecord). image_of new.bytes LittleEndian p unlimited
    ≡ Ok image) page_is at_first in
    record {
      type =
          type_is shows_read color size width height samples old new m l name shown.offset image shown.shows c s small image_is;
      numbers =
          λ whole. is_read color size width height samples old new m l name shown.offset unlimited image shown.shows c s small whole image_is;
    }

-- The samples that the call returns are those of the image that was written.
pub all_come_back : FirstShown → ReadsShown → WrittenIsRead
    → (color : ColorTypeRecord) (size width height : ℕ) (samples : List ℕ) (old new : FileState) (m : Model)
    → LeavesImage color size width height samples old new m → (name : ColorTypeName)
    → color ≡ color_type name → size ≡ inner_size name
    → AreNumbers size samples → old.chain ≡ header_link old.kind → 0 < end_of old
    → (file : List ℕ) (result : Result DecodingResult TiffError)
    → file ≡ new.bytes → IfOk result (λ image. IsFirstImage file (decoded_as image))
    → IfOk result (λ image. ComesBack (inner_type name) (columns_of color width) height (length color.bits) samples (decoded_as image))
all_come_back shown_first shows_read is_read color size width height samples old new m l name c s small chain some file (Ok image) is_file read =
    comes_back shown_first shows_read is_read color size width height samples old new m l name c s small chain some file (decoded_as image) is_file read
all_come_back shown_first shows_read is_read color size width height samples old new m l name c s small chain some file (Err fault) is_file read = tt

-- ---- what is answered

-- The image was refused by `write_image`.
pub written_refused : (color : ColorTypeRecord) (size width height : ℕ) (samples : List ℕ)
    (e : TiffError) (result : Result DecodingResult TiffError)
    → result ≡ Err e → WritesAlone color size width height samples (Err e)
    → AnswersBack color size width height samples (view_of_result decoded_as result)
written_refused color size width height samples e result is w =
    inr (inl (e, (ap (view_of_result decoded_as) is, w)))

-- The file was written, and read.
pub written_read : (color : ColorTypeRecord) (size width height : ℕ) (samples file : List ℕ)
    (result : Result DecodingResult TiffError)
    → WritesAlone color size width height samples (Ok file)
    → FileAnswers decoded_as result (first_freely file)
    → AnswersBack color size width height samples (view_of_result decoded_as result)
written_read color size width height samples file (Ok image) w h = inr (inr (file, (w, h)))
written_read color size width height samples file (Err e) w h = inr (inr (file, (w, h)))
