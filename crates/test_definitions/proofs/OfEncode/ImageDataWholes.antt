-- The worked examples of `Encode.ImageDataWholes` hold.
use Rattle.std.specs.Prelude.{refl, zero, suc}
use Rattle.std.proofs.Common.{◌≡◌, ℕ, ◌<◌, ◌^◌, List, [], ◌∷◌, length, Some, Ok, ap, sym, ◌∙◌, subst, inl, inr, lit<}
use Rattle.tiff_base.specs.declared.tags.FileKind.TheVariants.{Classic}
use Rattle.tiff_base.specs.Field.{AreEntries}
use Rattle.tiff_value.specs.Model.{IsLink, header_model}
use Rattle.tiff_encode.specs.Machine.{FileState}
use Rattle.tiff_encode.specs.Chunks.{parts_left}
use Rattle.tiff_encode.specs.Calls.{Offsets, finish_image, new_image}
use Rattle.tiff_encode.specs.Held.{image_with}
use Rattle.tiff_encode.specs.Shows.{Shows, ShowsGray, gray_image}
use Rattle.tiff_encode.specs.ImageData.{AreNumbers, IsShortFile, WritesImageData, WritesImage, LeavesImage}
use Rattle.tiff_encode.proofs.Data.Image.{image_leaves_by}
use Rattle.tiff_encode.proofs.Data.Shows.{data_leaves}
use Rattle.tiff_encode.proofs.Shown.Gray as proved
use Rattle.tiff_value.specs.lemmas.File.Header as its_header
use Rattle.tiff_encode.proofs.Image.Fits.{new_image_fits}
use Rattle.tiff_encode.specs.lemmas.Shown.Parts.{parts_show}
use Rattle.tiff_base.specs.lemmas.Slices.{ok_inj}
use Rattle.test_definitions.specs.Encode.Causes.{new_file, gray}
use Rattle.test_definitions.specs.Files.{gray_file}
use Rattle.test_definitions.specs.Encode.Chunks.{new_pixel, pixel_in_file, page_file}
use Rattle.test_definitions.specs.Encode.ImageJobs.{after_begin, after_strip, after_end, after_data, page_offset}
use Rattle.test_definitions.specs.Encode.ImageDataWholes as s
use Rattle.test_definitions.proofs.OfEncode.Chunks as images
use Rattle.test_definitions.proofs.OfEncode.Model as models
use Rattle.test_definitions.proofs.OfEncode.Model.{unequal}
use Rattle.test_definitions.proofs.OnePixel.{begin_held, begun_stands, finishes, gray_shown, sample_alike}
use Rattle.tiff.proofs.OnLiterals.{tiff_on_literals}

-- ---- samples of an image that has begun

-- two samples are bytes
two_numbers : AreNumbers 1 (7 ∷ 8 ∷ [])
two_numbers zero = lit< tt
two_numbers (suc zero) = lit< tt
two_numbers (suc (suc n)) = lit< tt

-- the file of the page is short
data_short : IsShortFile after_data.file
data_short = subst (λ bytes. length bytes < 2 ^ 64) (sym images.pixel_data.1) (lit< tt)

-- the fields of a new image fit into directory entries
new_short : IsShortFile (new_image gray 1 1 1 (new_file Classic)).next
new_short = subst (λ bytes. length bytes < 2 ^ 64) (sym images.gray_begun.1) (lit< tt)

new_entries : AreEntries new_pixel.directory.fields
new_entries =
    (new_image_fits (new_file Classic) (header_model Classic) gray 1 1 1 new_pixel images.gray_begun.0 new_short).1

-- the link to a new image is the header's link
its_link : (offset : ℕ) → new_pixel.directory.parent ≡ Some offset
    → IsLink Classic after_begin.model offset
its_link offset p = inl cc

writes : WritesImageData {A = ℕ} new_pixel (7 ∷ 8 ∷ []) (Ok 0) after_begin.file after_data.file
unfolding tiff_on_literals
writes =
    inl ((7 ∷ []) ∷ [], ((refl, tt), (refl, (page_offset, record { answer = images.pixel_data.0; state = refl }))))

pub data_left : s.data_left
data_left =
    data_leaves {A = ℕ} new_pixel (7 ∷ 8 ∷ []) (Ok 0) after_begin.file after_data.file after_begin.model new_entries two_numbers data_short begun_stands its_link writes

pub data_other : s.data_other
unfolding tiff_on_literals
data_other = λ l p.
    let shown =
    subst (λ offset. Shows Classic gray_file offset (image_with new_pixel (parts_left new_pixel (8 ∷ [])))) p (l.shows [] begin_held) in
    unequal 7 8 (lit< tt) (sym (sample_alike gray_file gray_shown (image_with new_pixel (parts_left new_pixel (8 ∷ []))) shown))

-- ---- the end of an image with its chunk

end_bytes : after_end.file.bytes ≡ gray_file
end_bytes = images.pixel_finished.1

pub end_shown : s.end_shown
end_shown = (
  page_offset,
  (
    record { answer = images.pixel_finished.0; state = refl },
    subst (λ file. Shows Classic file 25 (image_with pixel_in_file ((7 ∷ [])
        ∷ []))) (sym end_bytes) gray_shown,
  ),
)

-- the end of the image returns the offset 25
end_offset : (offsets : Offsets) → (finish_image pixel_in_file after_strip.file).answer ≡ Ok offsets
    → offsets.pointer ≡ 25
end_offset offsets h =
    ap (λ (o : Offsets). o.pointer) (ok_inj offsets page_offset (sym h ∙ images.pixel_finished.0))

pub end_other : s.end_other
unfolding tiff_on_literals
end_other = λ h.
    let i = image_with pixel_in_file ((8 ∷ []) ∷ []) in
    let placed =
    subst (λ offset. Shows Classic after_end.file.bytes offset i) (end_offset h.0 h.1.0.answer) h.1.1 in
    unequal 7 8 (lit< tt) (sym (sample_alike gray_file gray_shown i (subst (λ file. Shows Classic file 25 i) end_bytes placed)))

-- the link of the page is the last link of the chain
end_chain : after_end.file.chain ≡ 195
unfolding tiff_on_literals
end_chain = ap (λ t. t.next.chain) finishes

pub end_unchained : s.end_unchained
end_unchained =
    λ h. unequal 4 195 (lit< tt) (ap (λ (f : FileState). f.chain) h.1.0.state ∙ end_chain)

-- ---- whole images

begins : WritesImage {A = Unit {0}} gray 1 1 1 (7 ∷ 8
    ∷ []) (Ok tt) (new_file Classic) after_data.file
unfolding tiff_on_literals
begins =
    inr (
      new_pixel,
      (
        after_begin.file,
        (
          record { answer = refl; state = refl },
          inl ((7 ∷ []) ∷ [], ((refl, tt), (refl, (page_offset, record { answer = images.pixel_data.0; state = refl })))),
        ),
      ),
    )

pub image_left : s.image_left
image_left =
    image_leaves_by parts_show gray 1 1 1 (7 ∷ 8
    ∷ []) (Ok tt) (new_file Classic) after_data.file (header_model Classic) (lit< tt) (lit< tt)
    two_numbers data_short (its_header.header_stands Classic) (inl refl) begins

-- if an image is in the file directly after the header, the first page of the file shows it
first_gray : (width height : ℕ) (samples : List ℕ) (new : FileState)
    → LeavesImage gray 1 width height samples (new_file Classic) new (header_model Classic)
    → ShowsGray new.bytes width height samples
unfolding tiff_on_literals
first_gray width height samples new l =
    proved.gray_shown width height samples (new_file Classic) new (header_model Classic) refl refl
    (lit< tt) refl refl l

pub image_other : s.image_other
image_other = λ l. models.other_sample (first_gray 1 1 (8 ∷ []) page_file l)

pub image_wider : s.image_wider
image_wider = λ l.
    models.other_width (models.shown_at_25 (gray_image 2 1 (7 ∷ 7 ∷ [])) (first_gray 2 1 (7 ∷ 7
    ∷ []) page_file l))

pub ruleset worked = (end_shown, end_other, end_unchained)
