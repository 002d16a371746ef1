-- The first page of a file with one written image.
use Rattle.std.proofs.Common.{◌≡◌, ℕ, suc, ◌%◌, ◌<◌, List, [], ◌∷◌, map, get_or, Fits, w8, Ok, refl, ap, sym, ◌∙◌, subst, arith}
use Rattle.tiff_base.specs.declared.color.ColorType.{ColorType}
use Rattle.tiff_base.specs.declared.color.ColorType.TheVariants.{Gray}
use Rattle.tiff_base.specs.declared.tags.FileKind.{FileKind}
use Rattle.tiff_base.specs.declared.tags.FileKind.TheVariants.{Classic}
use Rattle.tiff_base.specs.declared.tags.Predictor.TheVariants as predictor
use Rattle.tiff_base.specs.declared.tags.ByteOrder.TheVariants.{LittleEndian}
use Rattle.tiff_base.specs.Color.{num_samples}
use Rattle.tiff_base.specs.Header.{header_at}
use Rattle.tiff_page.specs.Page.{PageRecord}
use Rattle.tiff_page.specs.Layout.{color_of}
use Rattle.tiff_value.specs.declared.encoder.colortype.ColorTypeName.TheVariants.{Gray8}
use Rattle.tiff_base.specs.declared.tags.PhotometricInterpretation.TheVariants.{BlackIsZero}
use Rattle.tiff_base.specs.declared.tags.SampleFormat.TheVariants.{Uint}
use Rattle.tiff_value.specs.ColorType.{sample_number}
use Rattle.tiff_value.specs.ColorTypes.{color_type, inner_size, inner_type}
use Rattle.tiff_encode.specs.Causes.{end_of}
use Rattle.tiff_value.specs.Model.{Model, IsLink, header_link, header_model}
use Rattle.tiff_encode.specs.declared.encoder.settings.Compression.TheVariants.{Uncompressed}
use Rattle.tiff_encode.specs.Machine.{FileState, OpenDirectory, OpenImage}
use Rattle.tiff_encode.specs.Calls.{image_in}
use Rattle.tiff_encode.specs.Shows.{Shows, ShowsGray, gray_page, gray_image}
use Rattle.tiff_encode.specs.ImageData.{image_of_samples, LeavesImage, FirstShown, GrayShown}
use Rattle.tiff_base.specs.lemmas.Slices.{ok_inj}
use Rattle.tiff_value.specs.lemmas.File.Header.{only_link}
use Rattle.tiff_encode.proofs.Data.Begun.{new_is}
use Rattle.tiff_encode.proofs.Shown.Alike.{shown_alike}
use Rattle.tiff_value.specs.lemmas.File.FirstPage.{first_told}
use Rattle.tiff_encode.specs.lemmas.Shown.Parts.{gray_page_is, gray_sample_is}

pub first_shown : FirstShown
first_shown color size width height samples old new m chain some l name c s =
    let behind = l.placed in
    record {
      offset = l.offsets.pointer;
      first =
          first_told old.kind new.bytes l.after l.offsets.pointer l.stands
          (ap (λ q. l.after.links q) (sym chain) ∙ l.linked) (omega (arith, some, behind));
      shows = l.shows name c s;
    }

-- a gray page has a gray color
gray_color : (page : PageRecord) (width height : ℕ) (color : ColorType)
    → page ≡ record (gray_page width height) { offsets = page.offsets; byte_counts = page.byte_counts }
    → color_of page ≡ Ok color → Gray 8 ≡ color
unfolding color_of
gray_color page width height color p c = ok_inj (Gray 8) color (ap color_of (sym p) ∙ c)

-- an image of gray samples shows them
module _ (width height : ℕ) (samples file : List ℕ) (kind : FileKind) (offset : ℕ)
    (state : FileState) (d : OpenDirectory)
    (packed : state.compression ≡ Uncompressed) (predicted : state.predictor ≡ predictor.None) where
  abbrev image : OpenImage
  image = image_in state d (color_type Gray8) (inner_size Gray8) width height

  shown_gray : Shows kind file offset (image_of_samples image samples)
      → Shows kind file offset (gray_image width height samples)
  shown_gray s =
      let placed : PageRecord → PageRecord =
      λ p. record p { offsets = s.page.offsets; byte_counts = s.page.byte_counts } in
      let is : s.page ≡ record (gray_page width height) { offsets = s.page.offsets; byte_counts = s.page.byte_counts } =
      s.is_image ∙ ap placed (gray_page_is state d width height packed predicted) in
      let grey = gray_color s.page width height s.color is s.is_color in
      shown_alike s is (λ x y sample a b c.
      gray_sample_is state d width height samples x y sample (subst (λ q. sample < num_samples q) (sym grey) c))

pub gray_shown : GrayShown
gray_shown width height samples old new m k chain some packed predicted l =
    let first =
    first_shown (color_type Gray8) (inner_size Gray8) width height samples old new m (chain
    ∙ ap header_link (sym k)) some l Gray8 refl refl in
    let n = new_is (color_type Gray8) (inner_size Gray8) width height old l.image l.begun.answer in
    record {
      offset = first.offset;
      first =
          subst (λ kind. header_at new.bytes ≡ Ok (record { order = LittleEndian; kind = kind; first = first.offset })) k first.first;
      shows =
          shown_gray width height samples new.bytes Classic first.offset old n.0 packed predicted
          (subst (λ i. Shows Classic new.bytes first.offset (image_of_samples i samples)) (sym n.1.0) (subst (λ kind. Shows kind new.bytes first.offset (image_of_samples l.image samples)) k first.shows));
    }

-- the link of a header is the only link of its model
pub header_chain : (kind : FileKind) (chain : ℕ) → IsLink kind (header_model kind) chain
    → chain ≡ header_link kind
header_chain kind chain l = only_link kind chain l

-- a byte is its own number
byte_alone : (n : ℕ) → Fits w8 n → n % 256 ≡ n
byte_alone n h = omega arith

octets_alone : (xs : List ℕ) → ((i : ℕ) → Fits w8 (get_or xs i 0))
    → map (sample_number 1 (λ n. n)) xs ≡ xs
octets_alone [] h = refl
octets_alone (x ∷ xs) h =
    let e : x % 256 ≡ x = byte_alone x (h 0) in (λ j. e j ∷ octets_alone xs (λ i. h (suc i)) j)

-- the file shows an image of gray bytes
pub gray_bytes_shown : (width height : ℕ) (samples : List ℕ) (old new : FileState) (m : Model)
    → ((i : ℕ) → Fits w8 (get_or samples i 0))
    → old.kind ≡ Classic → old.chain ≡ header_link Classic → 0 < end_of old
    → old.compression ≡ Uncompressed → old.predictor ≡ predictor.None
    → LeavesImage (record { interpretation = BlackIsZero; bits = 8 ∷ []; formats = Uint ∷ [] }) 1 width height (map (sample_number 1 (λ n. n)) samples) old new m
    → ShowsGray new.bytes width height samples
unfolding color_type inner_type
gray_bytes_shown width height samples old new m octets k chain some packed predicted l =
    subst (λ xs. ShowsGray new.bytes width height xs) (octets_alone samples octets)
    (gray_shown width height (map (sample_number 1 (λ n. n)) samples) old new m k chain some packed predicted l)
