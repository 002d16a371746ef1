-- A number of a field, read alone, is the one among all of them.
use Rattle.std.proofs.Common.{◌≡◌, ◌∙◌, inl, inr, ⊎_elim, ℕ, ◌+◌, ◌-◌, ◌*◌, ◌^◌, ◌<◌, ◌≤◌, List, length, take, drop, Bool, Result, Ok, Err, true, false, refl, ap, sym, subst, arith, length-drop}
use Rattle.std.proofs.lemmas.Bool.{cases_lt}
use Rattle.std.proofs.lemmas.Grind.{common_steps}
use Rattle.std.proofs.lemmas.List.{drop-drop, drop-take, take-take, length-take}
use Rattle.std.specs.Int.{byte_len}
use Rattle.std.specs.Prelude.{if◌then◌else◌, slice_index}
use Rattle.tiff_base.specs.Answers.{◌>>=◌}
use Rattle.tiff_base.specs.Directory.{offset_width}
use Rattle.tiff_base.specs.Field.{Field}
use Rattle.tiff_base.specs.FieldBytes.{field_bytes, field_len, field_offset}
use Rattle.tiff_base.specs.Number.{number}
use Rattle.tiff_base.specs.SourceAndSink.{bytes_at, exactly_at}
use Rattle.tiff_base.specs.Types.{type_size}
use Rattle.tiff_base.specs.declared.error.TiffError.{TiffError}
use Rattle.tiff_base.specs.declared.error.TiffError.TheVariants.{LimitsExceeded}
use Rattle.tiff_base.specs.declared.tags.ByteOrder.{ByteOrder}
use Rattle.tiff_base.specs.declared.tags.FileKind.{FileKind}
use Rattle.tiff_base.specs.declared.tags.FileKind.TheVariants.{Classic, Big}
use Rattle.tiff_base.specs.declared.tags.«Type».{«Type»}
use Rattle.tiff_base.specs.declared.tags.«Type».TheVariants as t
use Rattle.tiff_ifd.specs.FieldValue.{field_value, is_allowed, value_from}
use Rattle.tiff_ifd.specs.Into.{into_u64_vec}
use Rattle.tiff_ifd.specs.Item.{items}
use Rattle.tiff_ifd.specs.OneNumber.{is_unsigned, one_number, OneOfNumbers}
use Rattle.tiff_ifd.specs.TagQueries.{part_from}
use Rattle.tiff_ifd.specs.Unsigned.{IsUnsigned, field_numbers, numbers_from, placed_numbers, unsigned_width}
use Rattle.tiff_ifd.specs.declared.limits.Limits.{Limits}
use Rattle.tiff_ifd.specs.lemmas.Unsigned.{items_at, length-items, numbers_too_long, placed_converted, unit_within, unsigned_value, value_placed}

-- bytes of a part of some bytes
part_of_part : (bytes : List ℕ) (from len at n : ℕ) → at + n ≤ len
    → bytes_at (bytes_at bytes from len) at n ≡ bytes_at bytes (from + at) n
part_of_part bytes from len at n within =
    let split : len ≡ at + (len - at) = omega (arith, within) in
    ap (λ m. take n (drop at (take m (drop from bytes)))) split
    ∙ ap (take n) (drop-take at (len - at) (drop from bytes))
    ∙ take-take n (len - at) (drop at (drop from bytes)) (omega (arith, within))
    ∙ ap (take n) (drop-drop at from bytes)

type_is : (type : «Type») → is_unsigned type ≡ true → IsUnsigned type
type_is t.SHORT h = inl refl
type_is t.LONG h = inr (inl refl)
type_is t.LONG8 h = inr (inr refl)
type_is type h = absurd (cc)

-- in the entry itself, these types have the same values as elsewhere
in_entry : (type : «Type») (order : ByteOrder) (n : ℕ) (bs : List ℕ) → IsUnsigned type
    → value_from true type order n bs ≡ value_from false type order n bs
in_entry t.SHORT order n bs h = refl
in_entry t.LONG order n bs h = refl
in_entry t.LONG8 order n bs h = refl
in_entry type order n bs (inl e) = absurd (cc)
in_entry type order n bs (inr (inl e)) = absurd (cc)
in_entry type order n bs (inr (inr e)) = absurd (cc)

-- a number of several is that of its bytes
number_is : (type : «Type») (order : ByteOrder) (n k : ℕ) (bs numbers : List ℕ) → IsUnsigned type
    → length bs ≡ n * type_size type
    → (value_from false type order n bs >>= into_u64_vec) ≡ Ok numbers → k < length numbers
    → (k < n) × (number order (unsigned_width type) (bytes_at bs (k * type_size type) (type_size type)) ≡ slice_index numbers k)
number_is type order n k bs numbers u l e h =
    let same : numbers ≡ items (number order (unsigned_width type)) (type_size type) n bs =
    (let both : Ok numbers ≡ Ok (items (number order (unsigned_width type)) (type_size type) n bs) = sym e ∙ unsigned_value type order n bs u l in cc) in
    let below : k < n =
    subst (λ m. k < m) (ap length same ∙ length-items (number order (unsigned_width type)) (type_size type) n bs) h in
    (below, sym (ap (λ (xs : List ℕ). slice_index xs k) same ∙ items_at (number order (unsigned_width type)) (type_size type) n k bs below))

-- the bytes of values outside the entry
placed_is : (allowed : Bool) (found : Result (List ℕ) TiffError)
    (g : List ℕ → Result (List ℕ) TiffError) (numbers : List ℕ)
    → (if allowed then (found >>= g) else Err LimitsExceeded) ≡ Ok numbers
    → (bs : List ℕ) × ((found ≡ Ok bs) × (g bs ≡ Ok numbers))
placed_is true (Ok bs) g numbers e = (bs, (refl, e))
placed_is true (Err x) g numbers e = absurd (cc)
placed_is false found g numbers e = absurd (cc)

there : (bytes : List ℕ) (at len : ℕ) (bs : List ℕ) → exactly_at bytes at len ≡ Ok bs
    → (len ≤ length bytes - at) × (bs ≡ bytes_at bytes at len)
there bytes at len bs e = grind (arith, common_steps, e)

width_within : (kind : FileKind) → byte_len (offset_width kind) ≤ 8
width_within Classic = omega arith
width_within Big = omega arith

module _ (kind : FileKind) (order : ByteOrder) (bytes : List ℕ) (limits : Limits) (f : Field)
    (numbers : List ℕ) (k : ℕ) where
  -- a number that the field has is read from its bytes
  alone : is_unsigned f.field_type ≡ true → field_len f < 2 ^ 64 → k < f.count
      → one_number kind order bytes f k
      ≡ (part_from kind order bytes f (type_size f.field_type) (k * type_size f.field_type)
      >>= λ found. Ok (number order (unsigned_width f.field_type) found))
  unfolding one_number
  alone u short below = grind (arith, common_steps, u, short, below)

  -- the value of a field that has values in its entry
  value_here : field_len f < 2 ^ 64 → 0 < f.count → field_len f ≤ byte_len (offset_width kind)
      → field_value kind order bytes limits f
      ≡ value_from true f.field_type order f.count (take (field_len f) f.value)
  unfolding field_value
  value_here short some fits = grind (arith, common_steps, short, some, fits)

  bytes_there : field_len f < 2 ^ 64 → byte_len (offset_width kind) < field_len f
      → field_bytes kind order bytes f ≡ exactly_at bytes (field_offset kind order f) (field_len f)
  unfolding field_bytes
  bytes_there short long = grind (arith, common_steps, short, long)

  part_here : field_len f ≤ byte_len (offset_width kind) → (n at : ℕ)
      → part_from kind order bytes f n at ≡ Ok (bytes_at f.value at n)
  part_here fits n at = grind (arith, common_steps, fits)

  part_there : byte_len (offset_width kind) < field_len f → (n at : ℕ)
      → field_offset kind order f + at < 2 ^ 64
      → n ≤ length bytes - (field_offset kind order f + at)
      → part_from kind order bytes f n at ≡ Ok (bytes_at bytes (field_offset kind order f + at) n)
  part_there long n at low within = grind (arith, common_steps, long, low, within)

  number_there : length bytes < 2 ^ 64 → is_unsigned f.field_type ≡ true → field_len f < 2 ^ 64
      → byte_len (offset_width kind) < field_len f
      → field_numbers kind order bytes limits f ≡ Ok numbers → k < length numbers
      → one_number kind order bytes f k ≡ Ok (slice_index numbers k)
  number_there wide u short long e h =
      let placed : placed_numbers kind order bytes limits f ≡ Ok numbers =
      sym (placed_converted kind order bytes limits f)
      ∙ ap (λ v. v >>= into_u64_vec) (sym (value_placed kind order bytes limits f short long))
      ∙ e in
      let found =
      placed_is (is_allowed limits f.field_type f.count) (field_bytes kind order bytes f)
      (λ bs. numbers_from f.field_type order f.count bs) numbers placed in
      let bs = found.0 in
      let read =
      there bytes (field_offset kind order f) (field_len f) bs (sym (bytes_there short long)
      ∙ found.1.0) in
      let whole : length bs ≡ f.count * type_size f.field_type =
      ap length read.1 ∙ length-take (field_len f) (drop (field_offset kind order f) bytes)
      ∙ omega (arith, read.0, length-drop (field_offset kind order f) bytes) in
      let is =
      number_is f.field_type order f.count k bs numbers (type_is f.field_type u) whole found.1.1 h in
      let within = unit_within k f.count (type_size f.field_type) is.0 in
      alone u short is.0
      ∙ ap (λ r. r >>= λ part. Ok (number order (unsigned_width f.field_type) part))
      (part_there long (type_size f.field_type) (k * type_size f.field_type) (omega (arith, wide, read.0, within, long)) (omega (arith, read.0, within, long)))
      ∙ ap (λ (xs : List ℕ). Ok (number order (unsigned_width f.field_type) xs))
      (sym (ap (λ (xs : List ℕ). bytes_at xs (k * type_size f.field_type) (type_size f.field_type)) read.1
      ∙ part_of_part bytes (field_offset kind order f) (field_len f) (k * type_size f.field_type) (type_size f.field_type) within))
      ∙ ap Ok is.1

  number_here : is_unsigned f.field_type ≡ true → field_len f < 2 ^ 64
      → field_len f ≤ byte_len (offset_width kind) → field_len f ≤ length f.value → 0 < f.count
      → field_numbers kind order bytes limits f ≡ Ok numbers → k < length numbers
      → one_number kind order bytes f k ≡ Ok (slice_index numbers k)
  number_here u short fits holds some e h =
      let bs : List ℕ = take (field_len f) f.value in
      let given : (value_from false f.field_type order f.count bs >>= into_u64_vec) ≡ Ok numbers =
      ap (λ v. v >>= into_u64_vec) (sym (value_here short some fits
      ∙ in_entry f.field_type order f.count bs (type_is f.field_type u))) ∙ e in
      let whole : length bs ≡ f.count * type_size f.field_type =
      length-take (field_len f) f.value ∙ omega (arith, holds) in
      let is =
      number_is f.field_type order f.count k bs numbers (type_is f.field_type u) whole given h in
      let within = unit_within k f.count (type_size f.field_type) is.0 in
      let from : 0 + k * type_size f.field_type ≡ k * type_size f.field_type = omega arith in
      alone u short is.0
      ∙ ap (λ r. r >>= λ part. Ok (number order (unsigned_width f.field_type) part))
      (part_here fits (type_size f.field_type) (k * type_size f.field_type))
      ∙ ap (λ (xs : List ℕ). Ok (number order (unsigned_width f.field_type) xs))
      (sym (part_of_part f.value 0 (field_len f) (k * type_size f.field_type) (type_size f.field_type) within ∙ ap (λ at. bytes_at f.value at (type_size f.field_type)) from))
      ∙ ap Ok is.1

  -- a field without values has no numbers
  none_here : f.count ≡ 0 → field_numbers kind order bytes limits f ≡ Ok numbers
      → k < length numbers → ⊥
  unfolding field_value
  none_here none e h = grind (arith, common_steps, none, e, h)

  by_place : length bytes < 2 ^ 64 → is_unsigned f.field_type ≡ true → field_len f < 2 ^ 64
      → length f.value ≡ 8
      → field_numbers kind order bytes limits f ≡ Ok numbers → k < length numbers
      → one_number kind order bytes f k ≡ Ok (slice_index numbers k)
  by_place wide u short eight e h =
      ⊎_elim
      (λ (long : byte_len (offset_width kind) < field_len f). number_there wide u short long e h)
      (λ (fits : field_len f ≤ byte_len (offset_width kind)). number_here u short fits (omega (arith, fits, eight, width_within kind)) (some_values e h) e h)
      (cases_lt (byte_len (offset_width kind)) (field_len f))
    where
      some_values : field_numbers kind order bytes limits f ≡ Ok numbers → k < length numbers
          → 0 < f.count
      some_values e h =
          ⊎_elim (λ (some : 0 < f.count). some) (λ (none : f.count ≤ 0). absurd (none_here (omega (arith, none)) e h)) (cases_lt 0 f.count)

  pub one_of_numbers_at : length bytes < 2 ^ 64 → is_unsigned f.field_type ≡ true
      → length f.value ≡ 8
      → field_numbers kind order bytes limits f ≡ Ok numbers → k < length numbers
      → one_number kind order bytes f k ≡ Ok (slice_index numbers k)
  one_of_numbers_at wide u eight e h =
      ⊎_elim
      (λ (short : field_len f < 2 ^ 64). by_place wide u short eight e h)
      (λ (long : 2 ^ 64 ≤ field_len f).
      let refused : Err LimitsExceeded ≡ Ok numbers = sym (numbers_too_long kind order bytes limits f (λ short. omega (arith, long, short))) ∙ e in absurd (cc))
      (cases_lt (field_len f) (2 ^ 64))

pub one_of_numbers : OneOfNumbers
one_of_numbers kind order bytes limits f numbers k wide u eight e h =
    one_of_numbers_at kind order bytes limits f numbers k wide u eight e h
