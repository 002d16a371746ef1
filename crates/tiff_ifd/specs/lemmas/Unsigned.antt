-- The conversion of unsigned numbers does not change them.
use Rattle.std.proofs.Common.{◌≡◌, ◌∙◌, inl, inr, ℕ, zero, suc, ◌+◌, ◌*◌, ◌^◌, ◌<◌, ◌≤◌, get_or, List, [], ◌∷◌, length, map, Bool, Vec, Result, Ok, Err, true, false, ◌==◌, refl, ap, sym, subst, arith}
use Rattle.std.proofs.lemmas.Bool.{ne_eqb}
use Rattle.std.proofs.lemmas.List.{ext_get_or, take_all}
use Rattle.std.proofs.lemmas.List.FromFn.{length-map-range_with_len, get_or-map-range_with_len}
use Rattle.std.specs.List.{range_with_len}
use Rattle.std.proofs.Math.Nat.{mul-le-mul_right}
use Rattle.std.specs.Int.{byte_len, w16, w32, w64}
use Rattle.std.specs.declared.alloc.Global.{Global}
use Rattle.std.proofs.lemmas.Grind.{common_steps}
use Rattle.std.specs.Prelude.{IsOk, if◌then◌else◌, is_ok}
use Rattle.tiff_base.specs.declared.error.TiffError.{TiffError}
use Rattle.tiff_base.specs.declared.error.TiffError.TheVariants.{LimitsExceeded}
use Rattle.tiff_base.specs.declared.tags.FileKind.{FileKind}
use Rattle.tiff_base.specs.Field.{Field}
use Rattle.tiff_base.specs.FieldBytes.{field_bytes, field_len}
use Rattle.tiff_base.specs.Directory.{offset_width}
use Rattle.tiff_base.specs.Sparing.{IsWithinLimits}
use Rattle.tiff_base.specs.declared.tags.ByteOrder.{ByteOrder}
use Rattle.tiff_base.specs.declared.tags.«Type».{«Type»}
use Rattle.tiff_base.specs.declared.tags.«Type».TheVariants as t
use Rattle.tiff_base.specs.Answers.{AnswersBut, ◌>>=◌}
use Rattle.tiff_base.specs.Number.{number}
use Rattle.tiff_base.specs.SourceAndSink.{bytes_at}
use Rattle.tiff_base.specs.Types.{type_size}
use Rattle.tiff_ifd.specs.PlainValue.{PlainValue, plain_value_list_of}
use Rattle.tiff_ifd.specs.FieldValue.{field_value, is_allowed, placed_value, value_from}
use Rattle.tiff_ifd.specs.declared.limits.Limits.{Limits}
use Rattle.tiff_ifd.specs.Into.{each_item, into_u64, into_u64_vec}
use Rattle.tiff_ifd.specs.Item.{items, list_item}
use Rattle.tiff_ifd.specs.Unsigned.{IsUnsigned, field_numbers, numbers_from, placed_numbers, unsigned_width}

-- values that are one number each
each_mapped : (f : ℕ → PlainValue) (g : ℕ → ℕ) → ((i : ℕ) → into_u64 (f i) ≡ Ok (g i))
    → (xs : List ℕ) → each_item into_u64 (plain_value_list_of (map f xs)) ≡ Ok (map g xs)
each_mapped f g h [] = refl
each_mapped f g h (x ∷ xs) = rw (h x, each_mapped f g h xs) refl

shorts : (order : ByteOrder) (n : ℕ) (bs : List ℕ)
    → each_item into_u64 (plain_value_list_of (items (list_item false t.SHORT order) 2 n bs))
    ≡ Ok (items (number order w16) 2 n bs)
shorts order n bs = each_mapped _ _ (λ i. refl) (range_with_len 0 n)

longs : (order : ByteOrder) (n : ℕ) (bs : List ℕ)
    → each_item into_u64 (plain_value_list_of (items (list_item false t.LONG order) 4 n bs))
    ≡ Ok (items (number order w32) 4 n bs)
longs order n bs = each_mapped _ _ (λ i. refl) (range_with_len 0 n)

longs_8 : (order : ByteOrder) (n : ℕ) (bs : List ℕ)
    → each_item into_u64 (plain_value_list_of (items (list_item false t.LONG8 order) 8 n bs))
    ≡ Ok (items (number order w64) 8 n bs)
longs_8 order n bs = each_mapped _ _ (λ i. refl) (range_with_len 0 n)

several : (n : ℕ) → (suc (suc n) == 1) ≡ false
several n = ne_eqb (suc (suc n)) 1 (λ e. omega (arith, e))

-- a single number
one_short : (order : ByteOrder) (bs : List ℕ) → length bs ≡ 2
    → (number order w16 bs ∷ []) ≡ items (number order w16) 2 1 bs
one_short order bs l =
    ap (λ (xs : List ℕ). number order w16 xs ∷ []) (sym (take_all 2 bs (omega (arith, l))))

one_long : (order : ByteOrder) (bs : List ℕ) → length bs ≡ 4
    → (number order w32 bs ∷ []) ≡ items (number order w32) 4 1 bs
one_long order bs l =
    ap (λ (xs : List ℕ). number order w32 xs ∷ []) (sym (take_all 4 bs (omega (arith, l))))

one_long_8 : (order : ByteOrder) (bs : List ℕ) → length bs ≡ 8
    → (number order w64 bs ∷ []) ≡ items (number order w64) 8 1 bs
one_long_8 order bs l =
    ap (λ (xs : List ℕ). number order w64 xs ∷ []) (sym (take_all 8 bs (omega (arith, l))))

-- numbers of each of the types, in values outside the entry
placed_shorts : (order : ByteOrder) (n : ℕ) (bs : List ℕ) → length bs ≡ n * 2
    → (value_from false t.SHORT order n bs >>= into_u64_vec) ≡ Ok (items (number order w16) 2 n bs)
placed_shorts order zero bs l = refl
placed_shorts order (suc zero) bs l = ap Ok (one_short order bs (omega (arith, l)))
placed_shorts order (suc (suc n)) bs l = rw (several n) (shorts order (suc (suc n)) bs)

placed_longs : (order : ByteOrder) (n : ℕ) (bs : List ℕ) → length bs ≡ n * 4
    → (value_from false t.LONG order n bs >>= into_u64_vec) ≡ Ok (items (number order w32) 4 n bs)
placed_longs order zero bs l = refl
placed_longs order (suc zero) bs l = ap Ok (one_long order bs (omega (arith, l)))
placed_longs order (suc (suc n)) bs l = rw (several n) (longs order (suc (suc n)) bs)

placed_longs_8 : (order : ByteOrder) (n : ℕ) (bs : List ℕ) → length bs ≡ n * 8
    → (value_from false t.LONG8 order n bs >>= into_u64_vec) ≡ Ok (items (number order w64) 8 n bs)
placed_longs_8 order zero bs l = refl
placed_longs_8 order (suc zero) bs l = ap Ok (one_long_8 order bs (omega (arith, l)))
placed_longs_8 order (suc (suc n)) bs l = rw (several n) (longs_8 order (suc (suc n)) bs)

-- unsigned numbers in values outside the entry
pub unsigned_value : (type : «Type») (order : ByteOrder) (n : ℕ) (bs : List ℕ) → IsUnsigned type
    → length bs ≡ n * type_size type
    → (value_from false type order n bs >>= into_u64_vec)
    ≡ Ok (items (number order (unsigned_width type)) (type_size type) n bs)
unsigned_value t.SHORT order n bs h l = placed_shorts order n bs l
unsigned_value t.LONG order n bs h l = placed_longs order n bs l
unsigned_value t.LONG8 order n bs h l = placed_longs_8 order n bs l
unsigned_value type order n bs (inl e) l = absurd (cc)
unsigned_value type order n bs (inr (inl e)) l = absurd (cc)
unsigned_value type order n bs (inr (inr e)) l = absurd (cc)

-- one step, or two steps, to check the limits, read the bytes and convert them
converted : {B : Type 0} (b : Bool) (found : Result (List ℕ) TiffError) (e : TiffError)
    (f : List ℕ → Result PlainValue TiffError) (g : PlainValue → Result B TiffError)
    → ((if b then (found >>= f) else Err e) >>= g)
    ≡ (if b then (found >>= λ x. f x >>= g) else Err e)
converted true (Ok x) e f g = refl
converted true (Err d) e f g = refl
converted false found e f g = refl

pub placed_converted : (kind : FileKind) (order : ByteOrder) (bytes : List ℕ) (limits : Limits) (e : Field)
    → (placed_value kind order bytes limits e >>= into_u64_vec)
    ≡ placed_numbers kind order bytes limits e
placed_converted kind order bytes limits e =
    converted (is_allowed limits e.field_type e.count) (field_bytes kind order bytes e) LimitsExceeded (λ found. value_from false e.field_type order e.count found) into_u64_vec

-- values of 2^64 bytes or more
pub numbers_too_long : (kind : FileKind) (order : ByteOrder) (bytes : List ℕ) (limits : Limits)
    (e : Field) → (field_len e < 2 ^ 64 → ⊥)
    → field_numbers kind order bytes limits e ≡ Err LimitsExceeded
unfolding field_value
numbers_too_long kind order bytes limits e long = grind (arith, common_steps, long)

pub value_placed : (kind : FileKind) (order : ByteOrder) (bytes : List ℕ) (limits : Limits)
    (e : Field) → field_len e < 2 ^ 64 → byte_len (offset_width kind) < field_len e
    → field_value kind order bytes limits e ≡ placed_value kind order bytes limits e
unfolding field_value
value_placed kind order bytes limits e short long = grind (arith, common_steps, short, long)

-- the numbers of values outside the entry are the numbers of the field
pub numbers_placed : (kind : FileKind) (order : ByteOrder) (bytes : List ℕ) (limits : Limits)
    (e : Field) (failed : Type 0) (r : Result (Vec ℕ Global) TiffError)
    → field_len e < 2 ^ 64 → byte_len (offset_width kind) < field_len e
    → AnswersBut (IsWithinLimits (placed_numbers kind order bytes limits e)) failed (λ v. v.items) r
    (placed_numbers kind order bytes limits e)
    → AnswersBut (IsWithinLimits (field_numbers kind order bytes limits e)) failed (λ v. v.items) r
    (field_numbers kind order bytes limits e)
numbers_placed kind order bytes limits e failed r short long h =
    let same : field_numbers kind order bytes limits e ≡ placed_numbers kind order bytes limits e =
    ap (λ (x : Result PlainValue TiffError). x
    >>= into_u64_vec) (value_placed kind order bytes limits e short long)
    ∙ placed_converted kind order bytes limits e in
    subst (λ (given : Result (List ℕ) TiffError). AnswersBut (IsWithinLimits given) failed (λ (v : Vec ℕ Global). v.items) r given) (sym same) h

-- a number's bytes are within those of all
pub unit_within : (k n width : ℕ) → k < n → k * width + width ≤ n * width
unit_within k n width h =
    let m : (k + 1) * width ≤ n * width =
    mul-le-mul_right width (omega (arith, h)) in omega (arith, m)

pub length-items : (read : List ℕ → ℕ) (width n : ℕ) (bs : List ℕ)
    → length (items read width n bs) ≡ n
length-items read width n bs = length-map-range_with_len _ 0 n

pub items_at : (read : List ℕ → ℕ) (width n k : ℕ) (bs : List ℕ) → k < n
    → get_or (items read width n bs) k 0 ≡ read (bytes_at bs (k * width) width)
items_at read width n k bs h =
    let e : width * k ≡ k * width = omega arith in
    get_or-map-range_with_len (λ i. read (bytes_at bs (width * i) width)) 0 n k k 0 h (omega arith)
    ∙ ap (λ (m : ℕ). read (bytes_at bs m width)) e

-- the numbers, read one by one, are the numbers of all bytes
pub each_read : (read : List ℕ → ℕ) (width n : ℕ) (bs numbers : List ℕ) → length numbers ≡ n
    → ((k : ℕ) → k < length numbers → get_or numbers k 0 ≡ read (bytes_at bs (k * width) width))
    → numbers ≡ items read width n bs
each_read read width n bs numbers l e =
    ext_get_or 0 numbers (items read width n bs) (l
    ∙ sym (length-items read width n bs)) (λ k h. e k h
    ∙ sym (items_at read width n k bs (omega (arith, h, l))))

-- the numbers, read one by one, are the numbers of the value
pub each_given : (type : «Type») (order : ByteOrder) (n : ℕ) (bs numbers : List ℕ) → IsUnsigned type
    → length bs ≡ n * type_size type → length numbers ≡ n
    → ((k : ℕ) → k < length numbers → get_or numbers k 0
    ≡ number order (unsigned_width type) (bytes_at bs (k * type_size type) (type_size type)))
    → numbers_from type order n bs ≡ Ok numbers
each_given type order n bs numbers h l m e =
    unsigned_value type order n bs h l
    ∙ ap Ok (sym (each_read (number order (unsigned_width type)) (type_size type) n bs numbers m e))

-- the numbers are no error
pub unsigned_ok : (type : «Type») (order : ByteOrder) (n : ℕ) (bs : List ℕ) → IsUnsigned type
    → length bs ≡ n * type_size type → IsOk (numbers_from type order n bs)
unsigned_ok type order n bs h l =
    ap (λ (r : Result (List ℕ) TiffError). is_ok r) (unsigned_value type order n bs h l)
