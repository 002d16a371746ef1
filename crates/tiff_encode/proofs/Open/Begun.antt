-- A new image is held by the model.
use Rattle.std.proofs.Common.{◌≡◌, ℕ, zero, suc, ◌*◌, ◌^◌, ◌<◌, ◌≤◌, ◌⊎◌, inl, inr, Bool, true, false, [], length, Option, Some, None, Ok, refl, ap, ◌∙◌, subst, arith, lit<}
use Rattle.std.proofs.Math.Nat.{div-le_self, min-le_left}
use Rattle.std.proofs.lemmas.Grind.{div_ceil_times}
use Rattle.std.specs.FinMap.{get}
use Rattle.std.specs.Ordering.{nat_cmp, eq_by_cmp}
use Rattle.std.specs.Prelude.{◌/◌, ◌%◌, ◌==◌, ◌||◌}
use Rattle.tiff_base.specs.lemmas.Common.{neither}
use Rattle.tiff_base.specs.declared.error.TiffError.{TiffError}
use Rattle.tiff_base.specs.declared.tags.PhotometricInterpretation.{PhotometricInterpretation}
use Rattle.tiff_base.specs.declared.tags.PhotometricInterpretation.TheVariants as meaning
use Rattle.tiff_base.specs.declared.tags.Predictor.{Predictor}
use Rattle.tiff_base.specs.declared.tags.Predictor.TheVariants as predictor
use Rattle.tiff_base.specs.declared.tags.Tag.TheVariants as tag
use Rattle.tiff_base.specs.Tags.{tag_number}
use Rattle.tiff_value.specs.declared.encoder.colortype.ColorTypeName.{ColorTypeName}
use Rattle.tiff_value.specs.ColorType.{ColorTypeRecord, columns_of}
use Rattle.tiff_value.specs.ColorTypes.{color_type, inner_size}
use Rattle.tiff_value.specs.lemmas.ColorTypes.{are_color_types}
use Rattle.tiff_encode.specs.declared.encoder.settings.Compression.{Compression}
use Rattle.tiff_encode.specs.declared.encoder.settings.Compression.TheVariants.{Uncompressed, Packbits, PackbitsRows}
use Rattle.tiff_value.specs.FileBytes.{rows_per_strip}
use Rattle.tiff_value.specs.Model.{Model}
use Rattle.tiff_encode.specs.Machine.{FileState, OpenDirectory, OpenImage, WriteCall, gives, ◌>>=◌}
use Rattle.tiff_encode.specs.Drawn.{IsSide}
use Rattle.tiff_encode.specs.Causes.{begin_cause, is_not_whole, is_unpredicted, predictor_cause, new_image_cause, image_cause}
use Rattle.tiff_encode.specs.Calls.{new_directory, pad, image_directory, default_rows, write_tags, chroma_tags, meaning_tags, layout_tags, first_tags, image_in, new_image}
use Rattle.tiff_encode.specs.Held.{Given, HoldsAt, HoldsValues, chroma_given}
use Rattle.tiff_encode.specs.Open.{TellsOpen, HoldsChunks, RecordsImage, model_by, BeginsOpen}
use Rattle.tiff_encode.proofs.Columns.{columns_side, size_some}
use Rattle.tiff_base.specs.lemmas.Slices.{ok_inj}
use Rattle.tiff_encode.proofs.Runs.{uncaused}
use Rattle.tiff_encode.proofs.Joining.{adding, begin_adds}
use Rattle.tiff_encode.proofs.Open.Held.{none_held, set, unset_same}
use Rattle.tiff_encode.proofs.Open.Tags.{both_held, caused_held, tags_adding, tags_held, after, after_local, after_joined}
use Rattle.tiff_encode.proofs.Open.Settings.{fresh, first_test, above}

-- ---- the tags of a new image

-- the values of the tags before the subsampling, and of all tags
abbrev head_given : OpenImage → Given
head_given i = after (λ t. None) (meaning_tags i)

abbrev first_given : OpenImage → Given
first_given i =
    after (set (head_given i) (tag_number tag.ChromaSubsampling) (chroma_given i.color.interpretation)) (layout_tags i)

-- the tag of the subsampling has its value, or stays absent
chroma_set : (p : PhotometricInterpretation) (given : Given) (n : ℕ) → given 530 ≡ None
    → after given (chroma_tags p) n ≡ set given 530 (chroma_given p) n
chroma_set meaning.WhiteIsZero given n h = unset_same given 530 n (eq_by_cmp nat_cmp n 530) refl h
chroma_set meaning.BlackIsZero given n h = unset_same given 530 n (eq_by_cmp nat_cmp n 530) refl h
chroma_set meaning.RGB given n h = unset_same given 530 n (eq_by_cmp nat_cmp n 530) refl h
chroma_set meaning.RGBPalette given n h = unset_same given 530 n (eq_by_cmp nat_cmp n 530) refl h
chroma_set meaning.TransparencyMask given n h =
    unset_same given 530 n (eq_by_cmp nat_cmp n 530) refl h
chroma_set meaning.CMYK given n h = unset_same given 530 n (eq_by_cmp nat_cmp n 530) refl h
chroma_set meaning.YCbCr given n h = refl
chroma_set meaning.CIELab given n h = unset_same given 530 n (eq_by_cmp nat_cmp n 530) refl h
chroma_set meaning.IccLab given n h = unset_same given 530 n (eq_by_cmp nat_cmp n 530) refl h
chroma_set meaning.ItuLab given n h = unset_same given 530 n (eq_by_cmp nat_cmp n 530) refl h

all_given : (i : OpenImage) (n : ℕ) → after (λ t. None) (first_tags i) n ≡ first_given i n
unfolding first_tags
all_given i n =
    let p : PhotometricInterpretation = i.color.interpretation in
    let joined = after_joined (head_given i) (chroma_tags p) (layout_tags i) in
    (λ k. joined k n)
    ∙ after_local (layout_tags i) (after (head_given i) (chroma_tags p))
    (set (head_given i) 530 (chroma_given p)) n
    (chroma_set p (head_given i) n refl)

-- the values of a new image's tags describe the image
begun_tells : (file : FileState) (d : OpenDirectory) (color : ColorTypeRecord) (size width height : ℕ)
    → (let i : OpenImage = image_in file d color size width height in TellsOpen i (first_given i))
begun_tells file d color size width height =
    record { extra = inr (refl, refl); pixels = refl; chunks = (refl, (refl, (refl, (refl, (refl, tt))))) }

-- ---- the sides, the samples and the compression of a new image

-- the predictor is one that is supported
predicted : (p : Predictor) (unpredicted : Bool) (rest : Option TiffError)
    → predictor_cause p unpredicted rest ≡ None
    → (p ≡ predictor.None) ⊎ (p ≡ predictor.Horizontal)
predicted predictor.None unpredicted rest h = inl refl
predicted predictor.Horizontal unpredicted rest h = inr refl
predicted predictor.FloatingPoint unpredicted rest h = absurd cc

-- samples that have no predictor are written without one
unpredicted : (p : Predictor) (b : Bool) (rest : Option TiffError) → predictor_cause p b rest ≡ None
    → b ≡ true → p ≡ predictor.None
unpredicted predictor.None b rest h t = refl
unpredicted predictor.Horizontal true rest h t = absurd cc
unpredicted predictor.Horizontal false rest h t = absurd cc
unpredicted predictor.FloatingPoint b rest h t = absurd cc

-- a factor of a product that isn't 0 isn't 0
some : (x n : ℕ) → 1000000 ≤ x * n → 0 < x
some zero n h = absurd (omega (arith, h))
some (suc x) n h = omega arith

some_rows : (n : ℕ) → 0 < rows_per_strip n
some_rows zero = lit< tt
some_rows (suc n) =
    some (rows_per_strip (suc n)) (suc n) (div_ceil_times 1000000 (suc n) (omega arith)).0

-- a strip has at least one row, and at most a million
rows_side : (n : ℕ) → IsSide (rows_per_strip n)
rows_side n =
    let q : ℕ = 1000000 / n in
    let l : q ≤ 1000000 = div-le_self 1000000 n in
    (some_rows n, omega (arith, l, min-le_left 1 (1000000 % n)))

default_side : (c : Compression) (n : ℕ) → IsSide (default_rows c n)
default_side Uncompressed n = rows_side n
default_side Packbits n = (lit< tt, lit< tt)
default_side PackbitsRows n = (lit< tt, lit< tt)

-- ---- the image

-- a new directory is empty
begun_empty : (file : FileState) (d : OpenDirectory) (m : Model)
    → (image_directory file).answer ≡ Ok d → HoldsValues m d.fields (λ t. None)
unfolding image_directory
begun_empty file d m h =
    let empty_one : OpenDirectory = new_directory (Some file.chain) true in
    let done = uncaused (begin_cause file) (pad >>= (λ _. gives empty_one)) file d h in
    subst (λ x. HoldsValues m x.fields (λ t. None)) (ok_inj empty_one d done.1) (none_held m)

positive : (n : ℕ) → 0 < 256 ^ n
positive zero = lit< tt
positive (suc n) = let p = positive n in omega (arith, p)

-- a new image has no chunk
no_chunks : (file : FileState) (d : OpenDirectory) (color : ColorTypeRecord) (size width height : ℕ)
    (m : Model)
    → HoldsChunks file.kind m (image_in file d color size width height) []
no_chunks file d color size width height m = record {
  as_many = refl;
  within = omega arith;
  few = λ l. absurd (omega (arith, l));
  lengths = λ k l. absurd (omega (arith, l));
  small = λ k n. positive size;
  regions = λ k l. absurd (omega (arith, l));
  fit = λ c l. absurd l;
}

-- a new image is held if nothing refuses it
begun_held : (file : FileState) (d : OpenDirectory) (m : Model) (name : ColorTypeName) (width height : ℕ)
    → width < 2 ^ 32 → height < 2 ^ 32
    → (let i : OpenImage = image_in file d (color_type name) (inner_size name) width height in
    new_image_cause file (color_type name) width height ≡ None → HoldsValues m d.fields (first_given i) → RecordsImage file.kind m i [])
unfolding new_image_cause image_cause
begun_held file d m name width height w h c o =
    let color : ColorTypeRecord = color_type name in
    let size : ℕ = inner_size name in
    let i : OpenImage = image_in file d color size width height in
    let sides = first_test _ _ _ (fresh file.fault _ c) in
    let some = neither (width == 0) (height == 0) sides.0 in
    let few = (are_color_types name).few in
    let pixels : IsSide width = (above width some.0, w) in
    let wide : IsSide (columns_of color width) =
    columns_side size color width (are_color_types name) (size_some name) pixels in
    record {
      given = first_given i;
      holds = o;
      tells = begun_tells file d color size width height;
      open_so = record {
        name = name;
        color = refl;
        size = refl;
        wide = wide;
        high = (above height some.1, h);
        few = omega (arith, few);
        predicted_by = predicted file.predictor (is_unpredicted color) _ sides.1;
        form = record {
          wide = wide;
          high =
              default_side file.compression (columns_of color width * (length color.bits * size));
          strips = λ _. refl;
        };
        pixels = record {
          some = pixels;
          columns = refl;
          plain = λ p. (
            refl,
            (refl, unpredicted file.predictor (is_unpredicted color) _ sides.1 (ap (λ b. b || is_not_whole color.formats) p)),
          );
        };
      };
      chunks = no_chunks file d color size width height m;
    }

pub begins_open : BeginsOpen
unfolding new_image
begins_open file m name width height i w h a =
    let color : ColorTypeRecord = color_type name in
    let size : ℕ = inner_size name in
    let image : OpenDirectory → OpenImage = λ d. image_in file d color size width height in
    let last : OpenDirectory → WriteCall OpenImage =
    λ d. write_tags d (first_tags (image d)) >>= (λ x. gives (image x)) in
    let P : Model → Type 0 = λ n. RecordsImage file.kind n i [] in
    caused_held (new_image_cause file color width height) (image_directory >>= last) file m P i a
    (λ c b. both_held image_directory last file m P i (adding (image_directory file) file (begin_adds file)) b
    (λ d x y.
    let mid : FileState = (image_directory file).next in
    let n : Model = model_by file m (image_directory file) in
    let call : WriteCall OpenDirectory = write_tags d (first_tags (image d)) in
    both_held call (λ z. gives (image z)) mid n P i (tags_adding d (first_tags (image d)) mid) y
    (λ z s t.
    let held = tags_held d (first_tags (image d)) mid n (λ q. None) z (begun_empty file d n x) s in
    let k : Model = model_by mid n (call mid) in
    subst (λ j. RecordsImage file.kind k j []) (ok_inj (image z) i t)
    (begun_held file z k name width height w h c
    (λ t q. subst (λ v. HoldsAt k (get z.fields t) v) (all_given (image d) t) (held t q))))))
