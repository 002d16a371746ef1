-- The data of a chunk begin with its bytes, and its numbers are its samples.
use Rattle.std.proofs.Common.{◌≡◌, ℕ, ◌+◌, ◌-◌, ◌*◌, ◌/◌, ◌%◌, ◌^◌, ◌<◌, ◌≤◌, ◌⊎◌, false, Bool, List, [], ◌++◌, length, map, take, drop, get_or, Ok, refl, ap, sym, ◌∙◌, subst, inl, inr, arith, append-nil}
use Rattle.std.specs.Prelude.{nat_lt, slice_index, sum_by}
use Rattle.std.specs.List.{range_with_len, flat_map}
use Rattle.std.proofs.lemmas.Bool.{le-ltb}
use Rattle.std.proofs.lemmas.List.{take-append-drop, get_or-take, get_or-drop}
use Rattle.std.proofs.lemmas.Nat.{div-mul-add, mod-mul-add}
use Rattle.std.proofs.lemmas.List.FromFn.{length-map-range_with_len, get_or-map-range_with_len}
use Rattle.std.proofs.Math.Nat.{mul-le-mul_right, mul_assoc}
use lib.Pow.{pow_pos}
use Rattle.tiff_base.specs.declared.tags.ByteOrder.{ByteOrder}
use Rattle.tiff_base.specs.declared.tags.ByteOrder.TheVariants.{LittleEndian}
use Rattle.tiff_base.specs.declared.tags.CompressionMethod.{CompressionMethod}
use Rattle.tiff_base.specs.declared.tags.CompressionMethod.TheVariants as method
use Rattle.tiff_base.specs.declared.tags.Predictor.{Predictor}
use Rattle.tiff_base.specs.declared.tags.Predictor.TheVariants as predictor
use Rattle.tiff_base.specs.Number.{number, le}
use Rattle.tiff_base.specs.Runs.{Unpacked, runs}
use Rattle.tiff_base.specs.SourceAndSink.{exactly_at}
use Rattle.tiff_value.specs.Differences.{stored_difference, differences}
use Rattle.tiff_value.specs.lemmas.Packing.{unpacks}
use Rattle.tiff_value.specs.lemmas.PackedRows.{rows_unpack}
use Rattle.tiff_page.specs.Page.{PageRecord}
use Rattle.tiff_page.specs.Methods.{data_by_method}
use Rattle.tiff_page.specs.Pixels.{tabulate, width_of, stored_samples, stored_row_bytes, chunk_data, stored_row, number_size, row_number, number_by, stored_number}
use Rattle.tiff_page.specs.Row.{IsSize}
use Rattle.tiff_page.specs.lemmas.ChunkRows.{bits_are}
use Rattle.tiff_encode.specs.declared.encoder.settings.Compression.{Compression}
use Rattle.tiff_encode.specs.declared.encoder.settings.Compression.TheVariants.{Uncompressed, Packbits, PackbitsRows}
use Rattle.tiff_encode.specs.Machine.{OpenImage, compression_method}
use Rattle.tiff_encode.specs.Chunks.{image_page, row_samples}
use Rattle.tiff_encode.specs.Stored.{IsCompressed, unpacked_chunk}
use Rattle.tiff_base.specs.lemmas.Slices.{is_exact}
use Rattle.tiff_encode.specs.lemmas.Shown.Color.{IsColored}
use Rattle.tiff_page.specs.lemmas.WrittenNumbers.{number_found, length_written}
use Rattle.tiff_encode.proofs.Shown.Undone.{summed, kept_small}

-- bytes stored in a file decode to data that begin with the given bytes
module _ (file : List ℕ) (order : ByteOrder) (p : PageRecord) (offset : ℕ) (stored bytes : List ℕ)
    (there : exactly_at file offset (length stored) ≡ Ok stored) where
  -- the data begin with the given bytes
  abbrev Begins : CompressionMethod → Type 0
  Begins m = (rest : List ℕ) × (data_by_method file m offset (length stored) ≡ bytes ++ rest)

  as_they_are : stored ≡ bytes → Begins method.None
  as_they_are e =
      let n : ℕ = length stored in
      let o = is_exact file offset n stored there in (
        drop n (drop offset file),
        sym (take-append-drop n (drop offset file))
            ∙ ap (λ (s : List ℕ). s ++ drop n (drop offset file)) (o.1 ∙ e),
      )

  unpacked : (u : Unpacked) → runs false stored ≡ u → u.out ≡ bytes → Begins method.PackBits
  unpacked u e h =
      let n : ℕ = length stored in
      let o = is_exact file offset n stored there in
      let late : nat_lt (length file - offset) n ≡ false = le-ltb (length file - offset) n o.0 in (
        [],
        ap (λ (b : Bool). (runs b (take n (drop offset file))).out) late
            ∙ ap (λ (xs : List ℕ). (runs false xs).out) o.1
            ∙ ap (λ (v : Unpacked). v.out) e
            ∙ h
            ∙ sym (append-nil bytes),
      )

  pub data_begin : (c : Compression) (row : ℕ) → IsCompressed c row stored bytes
      → Begins (compression_method c)
  data_begin Uncompressed row s = as_they_are s
  data_begin Packbits row s = unpacked _ (unpacks bytes stored s) refl
  data_begin PackbitsRows row s = unpacked _ (rows_unpack row bytes stored s) refl

-- the bits of a sample are the bits of its bytes
bits_of : (size : ℕ) → IsSize size → 2 ^ (8 * size) ≡ 256 ^ size
bits_of size s =
    let P : ℕ → Type 0 = λ n. 2 ^ (8 * n) ≡ 256 ^ n in
    elim s as (λ _. P size) [
      | inl e ↦ subst P (sym e) refl
      | inr t ↦ elim t as (λ _. P size) [
        | inl e ↦ subst P (sym e) refl
        | inr u ↦ elim u as (λ _. P size) [
          | inl e ↦ subst P (sym e) refl
          | inr e ↦ subst P (sym e) refl
        ]
      ]
    ]

some_of : (size : ℕ) → IsSize size → 0 < 256 ^ size
some_of size s =
    let e : 0 < 2 ^ (8 * size) = pow_pos (8 * size) in subst (λ (n : ℕ). 0 < n) (bits_of size s) e

-- an image that has a color
module _ (i : OpenImage) (c : IsColored i) where
  abbrev pub p : PageRecord
  p = image_page i

  -- the number of samples of a row, and of a pixel
  abbrev pub l : ℕ
  l = row_samples p

  abbrev pub s : ℕ
  s = stored_samples p

  -- the depth is a whole number of bytes
  size_is : p.depth / 8 ≡ i.size
  size_is = omega (arith, c.depth)

  -- a row is a whole number of bytes
  pub row_is : stored_row_bytes p ≡ l * i.size
  row_is =
      let e : p.depth ≡ i.size * 8 =
      omega (arith, c.depth) in bits_are p.chunk_width p.depth i.size s e

  -- the samples of a chunk
  module _ (xs : List ℕ) where
    -- the number that is kept for each sample
    abbrev kept_of : ℕ → ℕ
    kept_of = stored_difference i.predictor (256 ^ i.size) l s xs

    abbrev kept_all : List ℕ
    kept_all = map kept_of (range_with_len 0 (length xs))

    bytes_are : unpacked_chunk i xs ≡ flat_map (le i.size) kept_all
    unfolding unpacked_chunk differences
    bytes_are = refl

    -- the number of bytes of a chunk
    pub length_bytes : length (unpacked_chunk i xs) ≡ length xs * i.size
    length_bytes =
        ap length bytes_are ∙ length_written i.size kept_all
        ∙ ap (λ (n : ℕ). n * i.size) (length-map-range_with_len kept_of 0 (length xs))

    -- the data of a chunk begin with its bytes
    module _ (file rest : List ℕ) (k : ℕ) (begins : chunk_data file LittleEndian p k ≡ unpacked_chunk i xs ++ rest)
        (small : (n : ℕ) → get_or xs n 0 < 256 ^ i.size) (way : (i.predictor ≡ predictor.None) ⊎ (i.predictor ≡ predictor.Horizontal))
        (row : ℕ) where
      -- the index of a number
      abbrev at : ℕ → ℕ → ℕ
      at column sample = row * l + (column * s + sample)

      -- a row as the file stores it
      abbrev stored : List ℕ
      stored = stored_row file LittleEndian p k row

      -- a stored number is the kept one
      raw_is : (column sample : ℕ) → column * s + sample < l → at column sample < length xs
          → row_number LittleEndian (number_size p) stored (column * s + sample)
          ≡ kept_of (at column sample)
      raw_is column sample inside h =
          let here : List ℕ = chunk_data file LittleEndian p k in
          let n : ℕ = at column sample in
          let q : ℕ = column * s + sample in
          let f : ℕ → ℕ → ℕ = λ size j. slice_index stored (q * size + j) in
          let there : get_or kept_all n 0 ≡ kept_of n =
          get_or-map-range_with_len kept_of 0 (length xs) n n 0 h (omega arith) in
          let long : length kept_all ≡ length xs =
          length-map-range_with_len kept_of 0 (length xs) in
          let fits : kept_of n < 256 ^ i.size =
          kept_small i.predictor (256 ^ i.size) l s xs n way (some_of i.size c.is_size) small in
          let r : row * stored_row_bytes p ≡ row * (l * i.size) = ap (λ (m : ℕ). row * m) row_is in
          let a : row * (l * i.size) ≡ row * l * i.size = sym (mul_assoc row l i.size) in
          let u : (q + 1) * i.size ≤ l * i.size = mul-le-mul_right i.size (omega (arith, inside)) in
          let e : (j : ℕ) → j < i.size → f i.size j
          ≡ get_or (flat_map (le i.size) kept_all ++ rest) (n * i.size + j) 0 = λ j b.
          let z : row * stored_row_bytes p + (q * i.size + j) ≡ n * i.size
          + j = omega (arith, r, a) in
          get_or-take (stored_row_bytes p) (drop (row * stored_row_bytes p) here) (q * i.size
          + j) 0 (omega (arith, u, b, row_is))
          ∙ get_or-drop (row * stored_row_bytes p) here (q * i.size + j) 0
          ∙ ap (λ (m : ℕ). slice_index here m) z
          ∙ ap (λ (b : List ℕ). get_or b (n * i.size + j) 0) (begins
          ∙ ap (λ (b : List ℕ). b ++ rest) bytes_are) in
          ap (λ (m : ℕ). number LittleEndian (width_of m) (tabulate m (f m))) size_is
          ∙ number_found i.size kept_all rest n (f i.size) c.is_size (omega (arith, h, long))
          (subst (λ (m : ℕ). m < 256 ^ i.size) (sym there) fits) e
          ∙ there

      -- the number of a sample is the sample
      pub number_is : (column sample : ℕ) → sample < s → column < p.chunk_width
          → at column sample < length xs
          → stored_number file LittleEndian p k row column sample ≡ get_or xs (at column sample) 0
      number_is column sample first inside h =
          let m : ℕ = 256 ^ i.size in
          let q : ℕ = column * s + sample in
          let raw : ℕ → ℕ = λ j. row_number LittleEndian (number_size p) stored (j * s + sample) in
          let P : Predictor → Type 0 =
          λ w. ((j : ℕ) → j ≤ column → raw j ≡ stored_difference w m l s xs (at j sample))
          → number_by w LittleEndian p stored q ≡ get_or xs (at column sample) 0 in
          let u : (column + 1) * s ≤ p.chunk_width * s =
          mul-le-mul_right s (omega (arith, inside)) in
          let way_of : P i.predictor = elim way as (λ _. P i.predictor) [
            | inl e ↦ subst P (sym e) (λ f. f column (omega arith))
            | inr e ↦ subst P (sym e) (λ f.
                (λ t. sum_by (λ j. row_number LittleEndian (number_size p) stored (j * s
                + mod-mul-add column s sample first t)) (range_with_len 0 (div-mul-add column s sample first t + 1)) % 256 ^ size_is t)
                ∙ summed m l s xs small row sample column first (omega (arith, u, first)) raw f)
          ] in
          way_of (λ j b.
          let v : j * s ≤ column * s = mul-le-mul_right s b in
          raw_is j sample (omega (arith, v, u, first)) (omega (arith, v, h)))
