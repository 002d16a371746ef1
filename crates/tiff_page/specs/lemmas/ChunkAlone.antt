-- A chunk by its own numbers.
use Rattle.std.proofs.Common.{◌≡◌, ℕ, ◌+◌, ◌-◌, ◌*◌, ◌/◌, ◌%◌, ◌^◌, ◌<◌, ◌≤◌, List, length, Ok, Err, Some, refl, ap, sym, ◌∙◌, ⊎_elim, subst, arith}
use Rattle.std.specs.Prelude.{Result, slice_index, unwrap_or, if◌then◌else◌, ◌==◌, nat_lt, nat_le, ◌↔◌}
use Rattle.std.proofs.Math.Path.{transport}
use Rattle.std.proofs.lemmas.Bool.{cases_lt, le-leb}
use Rattle.std.proofs.lemmas.Nat.{mod_below}
use Rattle.tiff_base.specs.Answers.{◌>>=◌}
use Rattle.tiff_base.specs.lemmas.Common.{bind_ok}
use Rattle.tiff_base.specs.declared.color.ColorType.{ColorType}
use Rattle.tiff_base.specs.declared.color.ColorType.TheVariants as color
use Rattle.tiff_base.specs.declared.error.TiffError.{TiffError}
use Rattle.tiff_base.specs.declared.error.TiffError.TheVariants.{FormatError, IoError, LimitsExceeded}
use Rattle.tiff_base.specs.declared.error.TiffFormatError.TheVariants.{InconsistentSizesEncountered}
use Rattle.tiff_base.specs.declared.io.IoKind.TheVariants.{UnexpectedEof}
use Rattle.tiff_base.specs.declared.tags.ByteOrder.{ByteOrder}
use Rattle.tiff_base.specs.declared.tags.ExtraSamples.{ExtraSamples}
use Rattle.tiff_base.specs.declared.tags.PhotometricInterpretation.{PhotometricInterpretation}
use Rattle.tiff_base.specs.declared.tags.PhotometricInterpretation.TheVariants as meaning
use Rattle.tiff_base.specs.declared.tags.Predictor.{Predictor}
use Rattle.tiff_base.specs.declared.tags.Predictor.TheVariants as predictor
use Rattle.tiff_base.specs.declared.tags.SampleFormat.{SampleFormat}
use Rattle.tiff_base.specs.declared.tags.SampleFormat.TheVariants as format
use Rattle.tiff_base.specs.SourceAndSink.{AreReadable, SourceRecord, bytes_at}
use Rattle.tiff_ifd.specs.declared.limits.Limits.{Limits}
use Rattle.tiff_page.specs.Buffers.{image_chunk_buffer_layout, planes_layout, rounded_size}
use Rattle.tiff_page.specs.BufferPositions.{chunk_byte, unit_byte}
use Rattle.tiff_page.specs.ChunkAlone.{with_lists, ChunkAlone}
use Rattle.tiff_page.specs.Counts.{all_chunks}
use Rattle.tiff_page.specs.EarlyFaults.{chunk_bytes_early}
use Rattle.tiff_page.specs.Laws.{HasSides}
use Rattle.tiff_page.specs.Layout.{LayoutRecord, color_of, color_from, rgb, cmyk, ycbcr, lab, no_color, layout_of, row_bits, row_bytes, samples_in_chunk, wide, whole_chunks, whole_chroma, planes, first_is_alpha, sample_type_from, sample_type_of, size_of}
use Rattle.tiff_page.specs.Methods.{data_by_method, is_packed, method_fault}
use Rattle.tiff_page.specs.OutputRow.{StoresAllShown, handed_byte}
use Rattle.tiff_page.specs.Page.{PageRecord}
use Rattle.tiff_page.specs.PixelCalls.{part_fault, chunk_part, bytes_with_region, fill_buffer, read_chunk_bytes, room_fault}
use Rattle.tiff_page.specs.PixelFault.{fail_if, depth_fault, predictor_fault, fault_of_predictor, inversion_fault, white_from, form_fault, chunk_fault}
use Rattle.tiff_page.specs.Pixels.{byte_at, chunk_data, chunk_region, in_row, is_short, needed_bytes, needed_of_row, number_by, number_size, region_byte, shown_number, stored_row_bytes}
use Rattle.tiff_page.specs.Reach.{ChunkReadable, ChunksReadable, PartReadable}
use Rattle.tiff_page.specs.Rect.{rect, chunks_of_plane}
use Rattle.tiff_page.specs.lemmas.ChunkRows.{row_handed}
use Rattle.tiff_page.specs.lemmas.Covering.{is_placed, unit_shown, unit_plane_gap, unit_row_gap}
use Rattle.tiff_page.specs.lemmas.Planes.{colored, columns, form_read, laid_once}
use Rattle.tiff_page.specs.lemmas.PositionLaws.{chunks_within, placed_each}

-- a page of which a chunk passes the checks of its form lists the chunk
is_listed : (p : PageRecord) (limits : Limits) (c : ColorType) (i : ℕ)
    → form_fault p limits c i ≡ Ok tt → i < length p.offsets
unfolding form_fault
is_listed p limits c i h =
    ⊎_elim
    (λ (l : i < length p.offsets). l)
    (λ (l : length p.offsets ≤ i).
    let none : fail_if (nat_le (length p.offsets) i) (FormatError InconsistentSizesEncountered)
    ≡ Ok tt =
    (bind_ok (fail_if (nat_le (length p.offsets) i) (FormatError InconsistentSizesEncountered)) _ tt h).1.0 in
    let fault : Err (FormatError InconsistentSizesEncountered) ≡ Ok tt =
    rw (le-leb (length p.offsets) i l) at none in
    cc)
    (cases_lt i (length p.offsets))

only_chunk : (n plane i j : ℕ) → plane < 1 → j < 1 → plane * n + (i + j) ≡ i
only_chunk n plane i j a b =
    let none : plane * n ≡ 0 * n = ap (λ m. m * n) (omega (arith, a)) in
    omega (arith, none, b)

-- what depends on no list
module _ (p : PageRecord) (extra : List ExtraSamples) (offsets byte_counts : List ℕ) where
  abbrev pub q : PageRecord
  q = with_lists p extra offsets byte_counts

  depth_same : (c : ColorType) → depth_fault q c ≡ depth_fault p c
  unfolding depth_fault
  depth_same c = refl

  predictor_by : (x : Predictor) (c : ColorType)
      → fault_of_predictor x q c ≡ fault_of_predictor x p c
  predictor_by predictor.None c = refl
  predictor_by _ c = refl

  predictor_same : (c : ColorType) → predictor_fault q c ≡ predictor_fault p c
  unfolding predictor_fault
  predictor_same c = predictor_by p.predictor c

  white_by : (x : PhotometricInterpretation) (c : ColorType) → white_from x q c ≡ white_from x p c
  white_by meaning.WhiteIsZero c = refl
  white_by _ c = refl

  inversion_same : (c : ColorType) → inversion_fault q c ≡ inversion_fault p c
  unfolding inversion_fault
  inversion_same c = white_by p.interpretation c

  chroma_same : (c : ColorType) → whole_chroma q c ≡ whole_chroma p c
  chroma_same (color.YCbCr d) = refl
  chroma_same _ = refl

  number_by_same : (x : Predictor) (order : ByteOrder) (row : List ℕ) (k : ℕ)
      → number_by x order q row k ≡ number_by x order p row k
  number_by_same predictor.None order row k = refl
  number_by_same _ order row k = refl

  -- ---- the layout

  module _ (many : length extra ≡ length p.extra) (alpha : first_is_alpha extra ≡ first_is_alpha p.extra) where
    photometric_same : p.samples - length extra ≡ p.samples - length p.extra
    photometric_same = ap (λ n. p.samples - n) many

    rgb_same : rgb q ≡ rgb p
    unfolding no_color
    rgb_same =
        λ t. if photometric_same t == 3 then
        Ok (if alpha t then color.RGBA p.depth else color.RGB p.depth)
        else if photometric_same t == 4 then Ok (color.RGBA p.depth) else no_color p

    cmyk_same : cmyk q ≡ cmyk p
    unfolding no_color
    cmyk_same =
        λ t. if photometric_same t == 4 then
        Ok (if alpha t then color.CMYKA p.depth else color.CMYK p.depth)
        else if photometric_same t == 5 then Ok (color.CMYKA p.depth) else no_color p

    ycbcr_same : ycbcr q ≡ ycbcr p
    unfolding no_color
    ycbcr_same = λ t. if photometric_same t == 3 then Ok (color.YCbCr p.depth) else no_color p

    lab_by : (x : SampleFormat) → lab x q ≡ lab x p
    unfolding no_color
    lab_by format.Uint = λ t. if photometric_same t == 3 then Ok (color.Lab p.depth) else no_color p
    lab_by _ = refl

    color_by : (x : PhotometricInterpretation) → color_from x q ≡ color_from x p
    unfolding no_color
    color_by meaning.RGB = rgb_same
    color_by meaning.CMYK = cmyk_same
    color_by meaning.YCbCr = ycbcr_same
    color_by meaning.IccLab = lab_by p.format
    color_by _ = refl

    color_same : color_of q ≡ color_of p
    unfolding color_of
    color_same = color_by p.interpretation

    layout_same : (w h : ℕ) → layout_of q w h ≡ layout_of p w h
    unfolding layout_of row_bits
    layout_same w h = λ t. color_same t >>= (λ c.
        wide (row_bytes p c w * p.chunk_height) >>= (λ _.
        wide (row_bytes p c w * h) >>= (λ plane_stride.
        whole_chunks p c w >>= (λ _.
        chroma_same c t >>= (λ _.
        Ok (record { color = c; row_bytes = row_bytes p c w; plane_stride = plane_stride }))))))

    planes_layout_same : (w h : ℕ) → planes_layout q w h ≡ planes_layout p w h
    unfolding planes_layout
    planes_layout_same w h =
        λ t. layout_same w h t >>= (λ layout. wide (layout.plane_stride * planes p.planar layout.color) >>= (λ _. Ok layout))

    chunk_layout_same : (i : ℕ) → image_chunk_buffer_layout q i ≡ image_chunk_buffer_layout p i
    unfolding image_chunk_buffer_layout rect sample_type_of
    chunk_layout_same i = λ t. layout_same (rect p i).width (rect p i).height t >>= (λ layout.
        sample_type_from p.format p.depth >>= (λ type.
        rounded_size layout.plane_stride (size_of type) >>= (λ len.
        Ok (record {
          len = len;
          sample_format = p.format;
          sample_type = Some type;
          row_stride = Some layout.row_bytes;
          planes = 1;
          plane_stride = Some layout.plane_stride;
          complete_len = len;
        }))))

    -- ---- the first error

    module _ (i : ℕ) (chunks : length offsets ≡ length p.offsets)
        (byte_count : slice_index byte_counts i ≡ slice_index p.byte_counts i) where
      form_same : (limits : Limits) (c : ColorType)
          → form_fault q limits c i ≡ form_fault p limits c i
      unfolding form_fault
      form_same limits c =
          λ t. fail_if (nat_le (chunks t) i) (FormatError InconsistentSizesEncountered) >>= (λ _.
          depth_same c t >>= (λ _.
          predictor_same c t >>= (λ _.
          fail_if (nat_lt limits.intermediate_buffer_size (byte_count t)) LimitsExceeded >>= (λ _.
          method_fault p.method >>= (λ _.
          inversion_same c t)))))

      early_same : (limits : Limits) (len : ℕ)
          → chunk_bytes_early q limits i len ≡ chunk_bytes_early p limits i len
      unfolding rect
      early_same limits len =
          λ t. planes_layout_same (rect p i).width (rect p i).height t >>= (λ layout.
          room_fault len layout.plane_stride >>= (λ _.
          form_same limits layout.color t))

      module _ (offset : slice_index offsets i ≡ slice_index p.offsets i) where
        module _ (file : List ℕ) (order : ByteOrder) where
          data_same : chunk_data file order q i ≡ chunk_data file order p i
          data_same = λ t. data_by_method file p.method (offset t) (byte_count t)

          short_same : (c : ColorType) → is_short file order q c i ≡ is_short file order p c i
          unfolding rect row_bits
          short_same c = λ t. nat_lt (length (data_same t)) (needed_bytes p c i)

          chunk_same : (limits : Limits) (c : ColorType)
              → chunk_fault q limits (is_short file order q c) c i
              ≡ chunk_fault p limits (is_short file order p c) c i
          chunk_same limits c =
              λ t. form_same limits c t >>= (λ _. fail_if (short_same c t) (IoError UnexpectedEof))

          handed_same : (row : List ℕ) (c : ColorType) (b : ℕ)
              → handed_byte order q row c b ≡ handed_byte order p row c b
          handed_same row c b = λ t. handed_with (λ k. number_by_same p.predictor order row k t)
            where
              handed_with : (ℕ → ℕ) → ℕ
              handed_with number =
                  if nat_lt p.depth 8 then shown_number p.interpretation 256 (slice_index row b)
                  else shown_number p.interpretation (2 ^ p.depth) (number (in_row p (b / number_size p / samples_in_chunk p.planar c) (b / number_size p % samples_in_chunk p.planar c)))
                  / 256 ^ (b % number_size p) % 256

          module _ (c : ColorType) (sides : HasSides p) (stored : StoresAllShown p c)
              (listed : i < all_chunks p) where
            sides_too : HasSides q
            sides_too =
                record { wide = sides.wide; high = sides.high; chunk_wide = sides.chunk_wide; chunk_high = sides.chunk_high }

            stored_too : StoresAllShown q c
            stored_too =
                record { depth = stored.depth; shows = stored.shows; stores = stored.stores }

            byte_same : (r b : ℕ) → r < (rect p i).height → b < row_bytes p c (rect p i).width
                → chunk_byte file order q c i r b ≡ chunk_byte file order p c i r b
            unfolding rect row_bits
            byte_same r b rl bl =
                row_handed file order q c i r b sides_too stored_too listed rl bl
                ∙ (λ t. handed_byte order q (bytes_at (data_same t) (r * stored_row_bytes p) (needed_of_row p c (row_bytes p c (rect p i).width))) c b)
                ∙ handed_same (bytes_at (chunk_data file order p i) (r * stored_row_bytes p) (needed_of_row p c (row_bytes p c (rect p i).width))) c b
                ∙ sym (row_handed file order p c i r b sides stored listed rl bl)

          part_same : (limits : Limits) (c : ColorType) (stride : ℕ)
              → part_fault file order q limits c (chunk_part q i 1 stride)
              ≡ part_fault file order p limits c (chunk_part p i 1 stride)
          part_same limits c stride =
              let here : 0 * chunks_of_plane p + (i + 0) ≡ i = omega arith in
              (λ t. chunk_fault q limits (is_short file order q c) c (here t))
              ∙ chunk_same limits c
              ∙ sym (λ t. chunk_fault p limits (is_short file order p c) c (here t))

          -- the bytes of the buffer, where the page has no error
          module _ (c : ColorType) (stride : ℕ) (sides : HasSides p) (stored : StoresAllShown p c)
              (listed : i < all_chunks p) (fits : row_bytes p c (rect p i).width ≤ stride) where
            unit_same : (j : ℕ) → j / stride / (rect p i).height < 1
                → j % stride < row_bytes p c (rect p i).width
                → unit_byte file order q c stride i j ≡ unit_byte file order p c stride i j
            unfolding rect row_bits
            unit_same j a b =
                let first : (rect p i).plane + j / stride / (rect p i).height
                ≡ (rect p i).plane = omega (arith, a) in
                let some : 0 < (rect p i).height = (chunks_within p i sides).some_row in
                (λ t. region_byte file order q c (chunk_region q i) (first t) (j / stride % (rect p i).height) (j % stride))
                ∙ byte_same c sides stored listed (j / stride % (rect p i).height) (j % stride)
                (mod_below (j / stride) (rect p i).height some) b
                ∙ sym (λ t. region_byte file order p c (chunk_region p i) (first t) (j / stride % (rect p i).height) (j % stride))

            position_same : (j : ℕ) → byte_at file order q c (chunk_region q i) stride 1 j
                ≡ byte_at file order p c (chunk_region p i) stride 1 j
            unfolding rect row_bits
            position_same j =
                ⊎_elim
                (λ (a : j / stride / (rect p i).height < 1).
                ⊎_elim
                (λ (b : j % stride < row_bytes p c (rect p i).width).
                unit_shown file order q c stride i (sides_too c sides stored listed) 1 fits j a b
                ∙ ap Some (unit_same j a b)
                ∙ sym (unit_shown file order p c stride i sides 1 fits j a b))
                (λ (b : row_bytes p c (rect p i).width ≤ j % stride).
                unit_row_gap file order q c stride i (sides_too c sides stored listed) 1 fits j b
                ∙ sym (unit_row_gap file order p c stride i sides 1 fits j b))
                (cases_lt (j % stride) (row_bytes p c (rect p i).width)))
                (λ (a : 1 ≤ j / stride / (rect p i).height).
                unit_plane_gap file order q c stride i (sides_too c sides stored listed) 1 fits j a
                ∙ sym (unit_plane_gap file order p c stride i sides 1 fits j a))
                (cases_lt (j / stride / (rect p i).height) 1)

            placed_same : (buf : List ℕ) → bytes_with_region file order q c
                (chunk_region q i) stride 1 buf
                ≡ bytes_with_region file order p c (chunk_region p i) stride 1 buf
            placed_same buf =
                let placed = placed_each file order q c (chunk_region q i) stride 1 buf in
                is_placed file order p c (chunk_region p i) stride 1 buf (bytes_with_region file order q c (chunk_region q i) stride 1 buf) placed.0
                (λ j l. placed.1 j l ∙ ap (λ z. unwrap_or z (slice_index buf j)) (position_same j))

          module _ (limits : Limits) (c : ColorType) (stride : ℕ) (buf : List ℕ)
              (sides : HasSides p) (some : 0 < p.samples) (counted : length p.offsets ≡ all_chunks p)
              (colored : color_of p ≡ Ok c) (fits : row_bytes p c (rect p i).width ≤ stride) where
            by_fault : (r : Result (Unit {0}) TiffError)
                → part_fault file order p limits c (chunk_part p i 1 stride) ≡ r
                → (r >>= (λ _. Ok (bytes_with_region file order q c (chunk_region q i) stride 1 buf))) ≡ (r >>= (λ _. Ok (bytes_with_region file order p c (chunk_region p i) stride 1 buf)))
            by_fault (Err e) h = refl
            by_fault (Ok u) h =
                let here : 0 * chunks_of_plane p + (i + 0) ≡ i = omega arith in
                let formed : form_fault p limits c i ≡ Ok tt =
                (bind_ok (form_fault p limits c i) _ tt ((λ t. chunk_fault p limits (is_short file order p c) c (sym here t)) ∙ h)).1.0 in
                ap Ok (placed_same c stride sides (form_read p limits c i some colored formed).stored (subst (λ n. i < n) counted (is_listed p limits c i formed)) fits buf)

            fill_same : fill_buffer file order q limits c (chunk_part q i 1 stride) buf
                ≡ fill_buffer file order p limits c (chunk_part p i 1 stride) buf
            unfolding fill_buffer
            fill_same =
                (λ t. part_same limits c stride t >>= (λ _. Ok (bytes_with_region file order q c (chunk_region q i) stride 1 buf)))
                ∙ by_fault (part_fault file order p limits c (chunk_part p i 1 stride)) refl

          module _ (limits : Limits) (buf : List ℕ) (sides : HasSides p) (some : 0 < p.samples)
              (counted : length p.offsets ≡ all_chunks p) where
            by_layout : (r : Result LayoutRecord TiffError)
                → planes_layout p (rect p i).width (rect p i).height ≡ r
                → (r >>= (λ layout. room_fault (length buf) layout.plane_stride
                >>= (λ _. fill_buffer file order q limits layout.color (chunk_part q i 1 layout.row_bytes) buf)))
                ≡ (r >>= (λ layout. room_fault (length buf) layout.plane_stride
                >>= (λ _. fill_buffer file order p limits layout.color (chunk_part p i 1 layout.row_bytes) buf)))
            by_layout (Err e) h = refl
            by_layout (Ok l) h =
                let laid : layout_of p (rect p i).width (rect p i).height ≡ Ok l =
                laid_once p (rect p i).width (rect p i).height l h in
                λ t. room_fault (length buf) l.plane_stride >>= (λ _.
                fill_same limits l.color l.row_bytes buf sides some counted
                (colored p (rect p i).width (rect p i).height l.color l.row_bytes l.plane_stride laid)
                (columns p (rect p i).width (rect p i).height l.color l.row_bytes l.plane_stride laid) t)

            read_same : read_chunk_bytes file order q limits i buf
                ≡ read_chunk_bytes file order p limits i buf
            unfolding read_chunk_bytes rect
            read_same =
                (λ t. planes_layout_same (rect p i).width (rect p i).height t >>= (λ layout.
                room_fault (length buf) layout.plane_stride >>= (λ _.
                fill_buffer file order q limits layout.color (chunk_part q i 1 layout.row_bytes) buf)))
                ∙ by_layout (planes_layout p (rect p i).width (rect p i).height) refl

        -- ---- what is asked for

        needed_same : (source : SourceRecord) (c : ColorType)
            → ChunkReadable source q c i ≡ ChunkReadable source p c i
        unfolding rect row_bits
        needed_same source c =
            λ t. AreReadable source (offset t) (if is_packed p.method then
            byte_count t else needed_bytes p c i)

        part_asked : (source : SourceRecord) (c : ColorType) (stride : ℕ)
            → PartReadable source q c (chunk_part q i 1 stride) ↔ PartReadable source p c
            (chunk_part p i 1 stride)
        part_asked source c stride = (
          λ r. record {
            chunk = λ plane a j b.
                let here : plane * chunks_of_plane p + (i + j) ≡ i =
                only_chunk (chunks_of_plane p) plane i j a b in
                subst (λ n. ChunkReadable source p c n) (sym here)
                (transport (needed_same source c) (subst (λ n. ChunkReadable source q c n) here (r.chunk plane a j b)));
          },
          λ r. record {
            chunk = λ plane a j b.
                let here : plane * chunks_of_plane p + (i + j) ≡ i =
                only_chunk (chunks_of_plane p) plane i j a b in
                subst (λ n. ChunkReadable source q c n) (sym here)
                (transport (sym (needed_same source c)) (subst (λ n. ChunkReadable source p c n) here (r.chunk plane a j b)));
          },
        )

        asked_same : (source : SourceRecord)
            → ChunksReadable source q i (λ l. 1) ↔ ChunksReadable source p i (λ l. 1)
        unfolding rect
        asked_same source = (
          λ r. record {
            part_readable = λ l laid. (part_asked source l.color l.row_bytes).0
                (r.part_readable l (planes_layout_same (rect p i).width (rect p i).height ∙ laid));
          },
          λ r. record {
            part_readable = λ l laid. (part_asked source l.color l.row_bytes).1
                (r.part_readable l (sym (planes_layout_same (rect p i).width (rect p i).height)
                ∙ laid));
          },
        )

pub chunk_alone : ChunkAlone
chunk_alone = record {
  bytes = λ file order p limits i buf extra offsets byte_counts sides some counted s.
      read_same p extra offsets byte_counts s.extras s.alpha i s.chunks s.byte_count s.offset file order limits buf sides some counted;
  early =
      λ p limits i len extra offsets byte_counts s. early_same p extra offsets byte_counts s.extras s.alpha i s.chunks s.byte_count limits len;
  asked =
      λ source p i extra offsets byte_counts s. asked_same p extra offsets byte_counts s.extras s.alpha i s.chunks s.byte_count s.offset source;
  layout =
      λ p i extra offsets byte_counts many alpha. chunk_layout_same p extra offsets byte_counts many alpha i;
}
