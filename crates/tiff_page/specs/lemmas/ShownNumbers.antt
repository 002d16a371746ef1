-- The numbers in the bytes of an image are the samples that it shows.
use Rattle.std.proofs.Common.{zero, suc, ◌≡◌, ℕ, ◌+◌, ◌*◌, ◌/◌, ◌%◌, ◌^◌, ◌<◌, ◌≤◌, min, true, false, cond, List, length, Some, None, refl, ap, sym, ◌∙◌, subst, arith, lit<}
use Rattle.std.specs.Prelude.{nat_lt, ◌&&◌, unwrap_or, slice_index}
use Rattle.std.specs.Int.{div_ceil}
use Rattle.std.proofs.lemmas.Bool.{lt-ltb, le-ltb}
use Rattle.std.proofs.lemmas.List.FromFn.{length-map-range_with_len, get_or-map-range_with_len}
use Rattle.std.proofs.lemmas.Nat.{div-mul-add, mod-mul-add, mod_below, div_below, div-add-mod'}
use Rattle.std.proofs.Math.Arith.{mod-mul}
use Rattle.std.proofs.Math.Nat.{div-eq_of_lt, mod-eq_of_lt, mul_comm, mul_assoc, mul-le-mul_right, div-div-eq-div-mul, pow-suc}
use Rattle.tiff_base.specs.declared.color.ColorType.{ColorType}
use Rattle.tiff_base.specs.declared.tags.ByteOrder.TheVariants.{LittleEndian}
use Rattle.tiff_base.specs.declared.tags.PlanarConfiguration.{PlanarConfiguration}
use Rattle.tiff_base.specs.declared.tags.PlanarConfiguration.TheVariants.{Chunky, Planar}
use Rattle.tiff_base.specs.Number.{number}
use Rattle.tiff_page.specs.Page.{PageRecord}
use Rattle.tiff_page.specs.Layout.{row_bits, row_bytes, samples_in_chunk}
use Rattle.tiff_page.specs.Row.{IsSize}
use Rattle.tiff_page.specs.Pixels.{tabulate, width_of, planar_or, shown_sample, number_byte, region_byte, image_region, byte_at, numbers_in}
use Rattle.tiff_page.specs.lemmas.ChunkRows.{bits_are}
use Rattle.tiff_page.specs.lemmas.Rows.{each_same, digits, little_digits, some_size}

-- ---- a number and its bytes

power_pos : (n : ℕ) → 0 < 256 ^ n
power_pos zero = omega arith
power_pos (suc n) = omega (arith, power_pos n, pow-suc 256 n)

-- the bytes of a number, put together, are the number modulo a power of 256
digits_of : (x n : ℕ) → digits (λ j. x / 256 ^ j % 256) n ≡ x % 256 ^ n
digits_of x zero = omega arith
digits_of x (suc n) =
    let p : 256 ^ suc n ≡ 256 * 256 ^ n = omega (arith, pow-suc 256 n) in
    let e : x % (256 * 256 ^ n) ≡ x / 256 ^ n % 256 * 256 ^ n + x % 256 ^ n =
    mod-mul x (lit< tt) (power_pos n) in
    let f : x % 256 ^ suc n ≡ x % (256 * 256 ^ n) = ap (λ (m : ℕ). x % m) p in
    let c : 256 ^ n * (x / 256 ^ n % 256) ≡ x / 256 ^ n % 256 * 256 ^ n =
    mul_comm (256 ^ n) (x / 256 ^ n % 256) in
    omega (arith, digits_of x n, e, f, c)

-- ---- offsets

-- if a number is below a product, both factors are above 0
pub some_right : (a b n : ℕ) → n < a * b → 0 < b
some_right a zero n h = Prim.absurd (omega (arith, h))
some_right a (suc b) n h = omega arith

-- the samples of the first plane, for each planar configuration
first_plane : (planar : PlanarConfiguration) (n : ℕ) (color : ColorType)
    → planar_or planar (0 + 0) (n % samples_in_chunk planar color)
    ≡ n % samples_in_chunk planar color
first_plane Planar n color = omega arith
first_plane Chunky n color = refl

module _ (file : List ℕ) (p : PageRecord) (color : ColorType) (size : ℕ) (deep : p.depth ≡ 8 * size)
    (is_size : IsSize size) where
  -- the number of samples of a pixel, and of a row of the image
  abbrev s : ℕ
  s = samples_in_chunk p.planar color

  abbrev c : ℕ
  c = p.width * s

  -- the number of bytes of a row
  abbrev stride : ℕ
  stride = row_bytes p color p.width

  pub stride_is : stride ≡ c * size
  unfolding row_bits
  stride_is = bits_are p.width p.depth size s (omega (arith, deep))

  -- the byte at an index
  abbrev at : ℕ → ℕ
  at i = unwrap_or (byte_at file LittleEndian p color (image_region p) stride 1 i) 0

  abbrev pub bytes : List ℕ
  bytes = tabulate (stride * p.height) at

  -- the bytes of the image are the bytes of its samples
  pub all_are : stride * p.height ≡ p.height * p.width * s * size
  all_are =
      ap (λ (n : ℕ). n * p.height) stride_is
      ∙ mul_comm (c * size) p.height
      ∙ sym (mul_assoc p.height c size)
      ∙ ap (λ (n : ℕ). n * size) (sym (mul_assoc p.height p.width s))

  -- the sample at an index
  module _ (n : ℕ) (within : n < p.height * p.width * s) where
    -- the pixel of the sample is within the image
    some_shown : 0 < s
    some_shown = some_right (p.height * p.width) s n within

    pixel_within : n / s < p.height * p.width
    pixel_within = div_below n s (p.height * p.width) some_shown within

    some_wide : 0 < p.width
    some_wide = some_right p.height p.width (n / s) pixel_within

    pub column_within : n / s % p.width < p.width
    column_within = mod_below (n / s) p.width some_wide

    pub row_within : n / s / p.width < p.height
    row_within = div_below (n / s) p.width p.height some_wide pixel_within

    pub sample_within : n % s < s
    sample_within = mod_below n s some_shown

    -- a byte of the sample
    module _ (j : ℕ) (small : j < size) where
      abbrev i : ℕ
      i = n * size + j

      -- the index of the byte in its row
      abbrev k : ℕ
      k = n % c * size + j

      some_row : 0 < c
      some_row = omega (arith, mul-le-mul_right s some_wide, some_shown)

      k_within : k < c * size
      k_within =
          let l : n % c + 1 ≤ c = omega (arith, mod_below n c some_row) in
          let m : (n % c + 1) * size ≤ c * size = mul-le-mul_right size l in
          omega (arith, m, small)

      i_is : i ≡ n / c * (c * size) + k
      i_is =
          let e : n / c * c + n % c ≡ n = div-add-mod' n c in
          let f : (n / c * c + n % c) * size ≡ n * size = ap (λ (m : ℕ). m * size) e in
          let g : n / c * c * size ≡ n / c * (c * size) = mul_assoc (n / c) c size in
          omega (arith, f, g)

      row_is : i / stride ≡ n / s / p.width
      row_is =
          ap (λ (m : ℕ). i / m) stride_is
          ∙ ap (λ (m : ℕ). m / (c * size)) i_is
          ∙ div-mul-add (n / c) (c * size) k k_within
          ∙ ap (λ (m : ℕ). n / m) (mul_comm p.width s)
          ∙ sym (div-div-eq-div-mul n s p.width)

      rest_is : i % stride ≡ k
      rest_is =
          ap (λ (m : ℕ). i % m) stride_is
          ∙ ap (λ (m : ℕ). m % (c * size)) i_is
          ∙ mod-mul-add (n / c) (c * size) k k_within

      i_within : i < stride * p.height
      i_within =
          let l : n + 1 ≤ p.height * p.width * s = omega (arith, within) in
          let m : (n + 1) * size ≤ p.height * p.width * s * size = mul-le-mul_right size l in
          omega (arith, m, all_are, small)

      -- the index of the number in its row, and the index of the byte in the number
      number_is : k / (p.depth / 8) ≡ n % c
      number_is =
          let e : p.depth / 8 ≡ size = omega (arith, deep) in
          ap (λ (m : ℕ). k / m) e ∙ div-mul-add (n % c) size j small

      offset_is : k % (p.depth / 8) ≡ j
      offset_is =
          let e : p.depth / 8 ≡ size = omega (arith, deep) in
          ap (λ (m : ℕ). k % m) e ∙ mod-mul-add (n % c) size j small

      pixel_is : n % c ≡ n / s % p.width * s + n % s
      pixel_is = mod-mul n some_wide some_shown

      column_is : n % c / s ≡ n / s % p.width
      column_is =
          ap (λ (m : ℕ). m / s) pixel_is ∙ div-mul-add (n / s % p.width) s (n % s) sample_within

      sample_is : n % c % s ≡ n % s
      sample_is =
          ap (λ (m : ℕ). m % s) pixel_is ∙ mod-mul-add (n / s % p.width) s (n % s) sample_within

      abbrev x : ℕ
      x = shown_sample file LittleEndian p (n / s % p.width) (n / s / p.width) (n % s)

      number_byte_is : number_byte file LittleEndian p color (image_region p) (0
          + 0) (n / s / p.width) k ≡ x / 256 ^ j % 256
      number_byte_is =
          let a : 0 + k / (p.depth / 8) / s ≡ n / s % p.width =
          ap (λ (m : ℕ). 0 + m / s) number_is ∙ omega (arith, column_is) in
          let b : 0 + n / s / p.width ≡ n / s / p.width = omega arith in
          let d : planar_or p.planar (0 + 0) (k / (p.depth / 8) % s) ≡ n % s =
          ap (λ (m : ℕ). planar_or p.planar (0 + 0) (m % s)) number_is
          ∙ ap (λ (m : ℕ). planar_or p.planar (0 + 0) m) sample_is
          ∙ first_plane p.planar n color in
          λ t. shown_sample file LittleEndian p (a t) (b t) (d t) / 256 ^ offset_is t % 256

      byte_is : byte_at file LittleEndian p color (image_region p) stride 1 i
          ≡ Some (x / 256 ^ j % 256)
      unfolding byte_at
      byte_is =
          let first : i / (stride * p.height) ≡ 0 = div-eq_of_lt i_within in
          let rest : i % (stride * p.height) ≡ i = mod-eq_of_lt i_within in
          let row : i % (stride * p.height) / stride ≡ n / s / p.width =
          ap (λ (m : ℕ). m / stride) rest ∙ row_is in
          let tested : nat_lt k stride ≡ true =
          lt-ltb k stride (omega (arith, k_within, stride_is)) in
          let deep_enough : nat_lt p.depth 8 ≡ false =
          le-ltb p.depth 8 (omega (arith, deep, some_size size is_size)) in
          let P : ℕ → Type 0 =
          λ m. cond (nat_lt (i / (stride * p.height)) 1 && nat_lt m stride)
          (Some (region_byte file LittleEndian p color (image_region p) (0
          + i / (stride * p.height)) (i % (stride * p.height) / stride) m)) None
          ≡ Some (x / 256 ^ j % 256) in
          subst P (sym rest_is) (rw (first, tested, deep_enough, row) (ap (λ (m : ℕ). Some m) number_byte_is))

      pub byte_there : slice_index bytes i ≡ x / 256 ^ j % 256
      byte_there =
          get_or-map-range_with_len at 0 (stride * p.height) i i 0 i_within (omega arith)
          ∙ ap (λ o. unwrap_or o 0) byte_is

    -- the bytes of the number, put together, are the sample
    pub number_there : shown_sample file LittleEndian p (n / s % p.width) (n / s / p.width) (n % s)
        < 256 ^ size
        → number LittleEndian (width_of size) (tabulate size (λ j. slice_index bytes (n * size
        + j)))
        ≡ shown_sample file LittleEndian p (n / s % p.width) (n / s / p.width) (n % s)
    number_there below =
        let x : ℕ = shown_sample file LittleEndian p (n / s % p.width) (n / s / p.width) (n % s) in
        ap (number LittleEndian (width_of size)) (each_same size (λ j. slice_index bytes (n * size
        + j)) (λ j. x / 256 ^ j % 256) byte_there)
        ∙ little_digits size (λ j. x / 256 ^ j % 256) is_size
        ∙ digits_of x size
        ∙ mod-eq_of_lt below

  -- the bytes contain as many numbers as the image has samples
  count_is : div_ceil (length bytes) size ≡ p.height * p.width * s
  count_is =
      let l : length bytes ≡ stride * p.height =
      length-map-range_with_len at 0 (stride * p.height) in
      let n : ℕ = p.height * p.width * s in
      let e : n * size ≡ n * size + 0 = omega arith in
      let some : 0 < size = some_size size is_size in
      let d : (n * size) / size ≡ n = ap (λ (m : ℕ). m / size) e ∙ div-mul-add n size 0 some in
      let r : (n * size) % size ≡ 0 = ap (λ (m : ℕ). m % size) e ∙ mod-mul-add n size 0 some in
      ap (λ (m : ℕ). div_ceil m size) (l ∙ all_are)
      ∙ (λ t. d t + min 1 (r t))
      ∙ omega arith

  -- each number in the bytes is a sample of the image
  pub numbers_are : (f : ℕ → ℕ)
      → ((n : ℕ) → n < p.height * p.width * s → shown_sample file LittleEndian p (n / s % p.width) (n / s / p.width) (n % s) ≡ f n)
      → ((n : ℕ) → f n < 256 ^ size)
      → numbers_in size bytes ≡ tabulate (p.height * p.width * s) f
  unfolding numbers_in
  numbers_are f shows small =
      let number_at : ℕ → ℕ =
      λ n. number LittleEndian (width_of size) (tabulate size (λ j. slice_index bytes (n * size
      + j))) in
      ap (λ (m : ℕ). tabulate m number_at) count_is
      ∙ each_same (p.height * p.width * s) number_at f (λ n b.
      number_there n b (subst (λ (m : ℕ). m < 256 ^ size) (sym (shows n b)) (small n)) ∙ shows n b)
