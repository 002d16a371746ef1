-- The values of a directory's tags are read back as written.
use Rattle.std.proofs.Common.{suc, ◌≡◌, ℕ, ◌^◌, ◌/◌, ◌<◌, ◌≤◌, ◌==◌, ◌||◌, List, [], ◌∷◌, ◌++◌, length, map, take, get_or, Bool, true, false, not, cond, leb, ltb, Option, Some, Result, Ok, Err, refl, ap, sym, ◌∙◌, inl, inr, arith, append-nil}
use Rattle.std.proofs.lemmas.Bool.{leb-true, le-leb, ne_eqb}
use Rattle.std.proofs.Math.Bool.{or-true}
use Rattle.std.proofs.lemmas.List.{take_at, drop_at, take-append-le, length-take-le, take-take}
use Rattle.std.specs.Option.{option_map}
use Rattle.std.specs.Int.{w16, w32, w64}
use Rattle.std.specs.List.{flat_map}
use Rattle.std.specs.Cmp.{nat_cmp_total}
use Rattle.std.specs.FinMap.{FinMap, find, get, entries, get-entries, get-from_entries}
use Rattle.std.specs.Ordering.{nat_cmp, is_eq}
use Rattle.tiff_base.specs.declared.error.TiffError.{TiffError}
use Rattle.tiff_base.specs.declared.error.TiffError.TheVariants.{LimitsExceeded}
use Rattle.tiff_base.specs.declared.tags.ByteOrder.TheVariants.{LittleEndian}
use Rattle.tiff_base.specs.declared.tags.FileKind.{FileKind}
use Rattle.tiff_base.specs.declared.tags.FileKind.TheVariants.{Classic, Big}
use Rattle.tiff_base.specs.declared.tags.«Type».{«Type»}
use Rattle.tiff_base.specs.declared.tags.«Type».TheVariants.{SHORT, LONG, LONG8}
use Rattle.tiff_base.specs.Answers.{◌>>=◌}
use Rattle.tiff_base.specs.Field.{Field}
use Rattle.tiff_base.specs.FieldBytes.{field_len, field_offset, field_bytes}
use Rattle.tiff_base.specs.Number.{number, le}
use Rattle.tiff_base.specs.SourceAndSink.{exactly_at}
use Rattle.tiff_base.specs.Types.{type_size}
use Rattle.tiff_ifd.specs.PlainValue.{PlainValue, plain_value_list_of, short, unsigned, unsigned_big}
use Rattle.tiff_ifd.specs.PlainValue as f
use Rattle.tiff_ifd.specs.Item.{item, list_item, items}
use Rattle.tiff_ifd.specs.lemmas.Items.{items-first}
use Rattle.tiff_ifd.specs.FieldValue.{numbers, value_from, is_allowed, field_value}
use Rattle.tiff_ifd.specs.Limits.{unlimited}
use Rattle.tiff_value.specs.FileBytes.{offset_len}
use Rattle.tiff_value.specs.WriteOps.{standing_field, standing_fields}
use Rattle.tiff_base.specs.lemmas.Slices.{ok_bind, ok_inj, length-le, number-le}

-- ---- a field in its entry

-- one of two entries, each of which is mapped
changed : {X : Type 0} (g : X → X) (b : Bool) (x : X) (o p : Option X) → o ≡ option_map g p
    → cond b (Some (g x)) o ≡ option_map g (cond b (Some x) p)
changed g true x o p e = refl
changed g false x o p e = e

-- a key is found in a mapped list with its mapped value
find_changed : {X : Type 0} (g : X → X) (q : ℕ) (es : List (ℕ × X))
    → find nat_cmp q (map (λ e. (e.0, g e.1)) es) ≡ option_map g (find nat_cmp q es)
find_changed g q [] = refl
find_changed g q (e ∷ es) =
    changed g (is_eq (nat_cmp q e.0)) e.1 (find nat_cmp q (map (λ x. (x.0, g x.1)) es)) (find nat_cmp q es)
    (find_changed g q es)

-- the field of a tag as its entry contains it
pub get_standing : (kind : FileKind) (fields : FinMap nat_cmp Field) (q : ℕ)
    → get (standing_fields kind fields) q ≡ option_map (standing_field kind) (get fields q)
get_standing kind fields q =
    get-from_entries nat_cmp_total (map (λ entry. (entry.0, standing_field kind entry.1)) (entries fields)) q
    ∙ find_changed (standing_field kind) q (entries fields)
    ∙ ap (option_map (standing_field kind)) (sym (get-entries fields q))

-- the first bytes of a four-byte value field, padded with zeros, are those of the field
front_stands : (n : ℕ) (v : List ℕ) → length v ≡ 8 → n ≤ 4
    → take n (take 4 v ++ (0 ∷ 0 ∷ 0 ∷ 0 ∷ [])) ≡ take n v
front_stands n v l h =
    take-append-le n (take 4 v) (0 ∷ 0 ∷ 0 ∷ 0
    ∷ []) (omega (arith, length-take-le 4 v (omega (arith, l))))
    ∙ take-take n 4 v h

-- the offset in a four-byte value field is the offset of the field
offset_stands : (v : List ℕ) → length v ≡ 8
    → number LittleEndian w32 (take 4 v ++ (0 ∷ 0 ∷ 0 ∷ 0 ∷ [])) ≡ number LittleEndian w32 v
unfolding number
offset_stands [] l = absurd (omega (arith, l))
offset_stands (a ∷ []) l = absurd (omega (arith, l))
offset_stands (a ∷ b ∷ []) l = absurd (omega (arith, l))
offset_stands (a ∷ b ∷ c ∷ []) l = absurd (omega (arith, l))
offset_stands (a ∷ b ∷ c ∷ d ∷ v) l = refl

-- a choice by a test is the same if the values are equal where the test holds
where_true : {A : Type 0} (b : Bool) (x y z : A) → (b ≡ true → x ≡ y) → cond b x z ≡ cond b y z
where_true true x y z e = e refl
where_true false x y z e = refl

-- the bytes of a field are the same in its entry
pub standing_bytes : (kind : FileKind) (file : List ℕ) (e : Field) → length e.value ≡ 8
    → field_bytes kind LittleEndian file (standing_field kind e)
    ≡ field_bytes kind LittleEndian file e
unfolding field_bytes
standing_bytes Classic file e l =
    let n : ℕ = field_len e in
    let v : List ℕ = e.value in
    let w : List ℕ = take 4 v ++ (0 ∷ 0 ∷ 0 ∷ 0 ∷ []) in
    let far : ℕ → Result (List ℕ) TiffError = λ p. exactly_at file p n in
    let near : List ℕ → Result (List ℕ) TiffError = λ x. Ok (take n x) in
    let none : Result (List ℕ) TiffError = Err LimitsExceeded in
    ap (λ p. cond (ltb n (2 ^ 64)) (cond (leb n 4) (near w) (far p)) none) (offset_stands v l)
    ∙ ap (λ r. cond (ltb n (2 ^ 64)) r none)
    (where_true (leb n 4) (near w) (near v) (far (number LittleEndian w32 v))
    (λ t. ap (λ x. Ok x) (front_stands n v l (leb-true n 4 t))))
standing_bytes Big file e l = refl

-- ---- numbers

-- each number is below a limit
abbrev pub AllBelow : ℕ → List ℕ → Type 0
AllBelow limit ns = (i : ℕ) → get_or ns i 0 < limit

-- the value of a list of values: the only one, or the list
abbrev pub joint : List PlainValue → PlainValue
joint (d ∷ []) = d
joint ds = f.list (plain_value_list_of ds)

-- numbers are read back as written
items_read : (k limit : ℕ) (read : List ℕ → PlainValue) (one : ℕ → PlainValue)
    → ((n : ℕ) → n < limit → read (le k n) ≡ one n) → (ns : List ℕ) → AllBelow limit ns
    → items read k (length ns) (flat_map (le k) ns) ≡ map one ns
items_read k limit read one back [] b = refl
items_read k limit read one back (n ∷ ns) b =
    let rest : List ℕ = flat_map (le k) ns in
    let l : length (le k n) ≡ k = length-le 0 k n in
    let x = ap read (take_at (le k n) rest k l) ∙ back n (b 0) in
    let y = ap (items read k (length ns)) (drop_at (le k n) rest k l)
    ∙ items_read k limit read one back ns (λ i. b (suc i)) in
    items-first read k (length ns) (flat_map (le k) (n ∷ ns)) ∙ (λ i. x i ∷ y i)

-- a type of unsigned numbers, the number of bytes of each, and the value of one
pub record AreNumbers (type : «Type») (limit : ℕ) (one : ℕ → PlainValue) : Type 0 where
  pub alone : (n : ℕ) → n < limit → item type LittleEndian (le (type_size type) n) ≡ one n
  pub among : (inline : Bool) (n : ℕ) → n < limit
      → list_item inline type LittleEndian (le (type_size type) n) ≡ one n
  pub plain : (inline : Bool) (n : ℕ) (bytes : List ℕ)
      → value_from inline type LittleEndian n bytes ≡ Ok (numbers inline type LittleEndian n bytes)
  pub free : (n : ℕ) → n < 2 ^ 32 → is_allowed unlimited type n ≡ true

-- numbers of a type are read as its values
numbers_read : (type : «Type») (limit : ℕ) (one : ℕ → PlainValue) (inline : Bool) (ns : List ℕ)
    → AreNumbers type limit one
    → AllBelow limit ns
    → numbers inline type LittleEndian (length ns) (flat_map (le (type_size type)) ns)
    ≡ joint (map one ns)
numbers_read type limit one inline [] a b = refl
numbers_read type limit one inline (n ∷ []) a b =
    ap (item type LittleEndian) (append-nil (le (type_size type) n)) ∙ a.alone n (b 0)
numbers_read type limit one inline (n ∷ m ∷ ns) a b =
    let k : ℕ = type_size type in
    let B : List ℕ = flat_map (le k) (n ∷ m ∷ ns) in
    ap (λ t. cond t (item type LittleEndian B)
    (f.list (plain_value_list_of (items (list_item inline type LittleEndian) k (length (n ∷ m ∷ ns)) B))))
    (ne_eqb (length (n ∷ m ∷ ns)) 1 (λ e. omega (arith, e)))
    ∙ ap (λ ds. f.list (plain_value_list_of ds))
    (items_read k limit (list_item inline type LittleEndian) one (a.among inline) (n ∷ m ∷ ns) b)

-- ---- the value of a field

-- a value chosen by tests: no values, too many bytes, bytes in the entry, allowed bytes elsewhere
by_tests : (none few inline allowed : Bool) (empty value : PlainValue) (front bytes : List ℕ)
    (far : Result (List ℕ) TiffError) (near elsewhere : List ℕ → Result PlainValue TiffError)
    → (none ≡ true → empty ≡ value) → allowed ≡ true
    → cond few (cond inline (Ok front) far) (Err LimitsExceeded) ≡ Ok bytes
    → near bytes ≡ Ok value → elsewhere bytes ≡ Ok value
    → cond none (Ok empty) (cond (not few) (Err LimitsExceeded) (cond inline (near front)
    (cond allowed (cond few (cond inline (Ok front) far) (Err LimitsExceeded) >>= elsewhere) (Err LimitsExceeded)))) ≡ Ok value
by_tests true few inline allowed empty value front bytes far near elsewhere a b c d e =
    ap (λ x. Ok x) (a refl)
by_tests false false inline allowed empty value front bytes far near elsewhere a b c d e = absurd cc
by_tests false true true allowed empty value front bytes far near elsewhere a b c d e =
    ap near (ok_inj front bytes c) ∙ d
by_tests false true false false empty value front bytes far near elsewhere a b c d e = absurd cc
by_tests false true false true empty value front bytes far near elsewhere a b c d e =
    ok_bind far elsewhere bytes value c e

-- an empty list of numbers is an empty list of values
empty_joint : (one : ℕ → PlainValue) (ns : List ℕ) → (length ns == 0) ≡ true
    → f.list (plain_value_list_of []) ≡ joint (map one ns)
empty_joint one [] e = refl
empty_joint one (n ∷ ns) e =
    let some : (length (n ∷ ns) == 0) ≡ false =
    ne_eqb (length (n ∷ ns)) 0 (λ z. omega (arith, z)) in
    absurd (cc (some, e))

-- the value of a field with the bytes of numbers
pub value_read : (kind : FileKind) (file : List ℕ) (e : Field) (type : «Type») (limit : ℕ)
    (one : ℕ → PlainValue) (ns : List ℕ)
    → AreNumbers type limit one → AllBelow limit ns → length ns < 2 ^ 32
    → e.field_type ≡ type → e.count ≡ length ns
    → field_bytes kind LittleEndian file e ≡ Ok (flat_map (le (type_size type)) ns)
    → field_value kind LittleEndian file unlimited e ≡ Ok (joint (map one ns))
unfolding field_value field_bytes
value_read kind file e type limit one ns a b few t c h =
    let F : Bool → List ℕ → Result PlainValue TiffError =
    λ inline bytes. value_from inline e.field_type LittleEndian e.count bytes in
    let B : List ℕ = flat_map (le (type_size type)) ns in
    let V : PlainValue = joint (map one ns) in
    let back : (inline : Bool) → F inline B ≡ Ok V = λ inline.
    (λ i. value_from inline (t i) LittleEndian (c i) B) ∙ a.plain inline (length ns) B
    ∙ ap (λ v. Ok v) (numbers_read type limit one inline ns a b) in
    by_tests (e.count == 0) (ltb (field_len e) (2 ^ 64)) (leb (field_len e) (offset_len kind))
    (is_allowed unlimited e.field_type e.count) (f.list (plain_value_list_of [])) V
    (take (field_len e) e.value) B
    (exactly_at file (field_offset kind LittleEndian e) (field_len e)) (F true) (F false)
    (λ z. empty_joint one ns (sym (ap (λ n. n == 0) c) ∙ z))
    ((λ i. is_allowed unlimited (t i) (c i)) ∙ a.free (length ns) few)
    h (back true) (back false)

-- ---- the types of the numbers of a page

-- this number of values can be read without limits
all_free : (n : ℕ) → n < 2 ^ 32 → ((n == 1) || leb n (0xFFFF_FFFF_FFFF_FFFF / 32)) ≡ true
all_free n h = rw (le-leb n (0xFFFF_FFFF_FFFF_FFFF / 32) (omega arith)) (or-true (n == 1))

-- one value, in the entry or elsewhere
either : (inline : Bool) (x y : PlainValue) → x ≡ y → cond inline x x ≡ y
either true x y e = e
either false x y e = e

-- numbers are read in the same way from the entry and from elsewhere
are_read : (type : «Type») (limit : ℕ) (one : ℕ → PlainValue)
    → ((n : ℕ) → n < limit → item type LittleEndian (le (type_size type) n) ≡ one n)
    → ((inline : Bool) (bytes : List ℕ) → list_item inline type LittleEndian bytes
    ≡ cond inline (item type LittleEndian bytes) (item type LittleEndian bytes))
    → ((inline : Bool) (n : ℕ) (bytes : List ℕ)
    → value_from inline type LittleEndian n bytes ≡ Ok (numbers inline type LittleEndian n bytes))
    → ((n : ℕ) → n < 2 ^ 32 → is_allowed unlimited type n ≡ true) → AreNumbers type limit one
are_read type limit one alone among plain free = record {
  alone = alone;
  among = λ inline n h.
      among inline (le (type_size type) n) ∙ either inline _ _ (alone n h);
  plain = plain;
  free = free;
}

-- SHORT: numbers of 2 bytes
pub are_shorts : AreNumbers SHORT (2 ^ 16) short
are_shorts =
    are_read SHORT (2 ^ 16) short (λ n h. ap short (number-le w16 n (inl refl) h)) (λ _ _. refl) (λ _ _ _. refl) all_free

-- LONG: numbers of 4 bytes
pub are_longs : AreNumbers LONG (2 ^ 32) unsigned
are_longs =
    are_read LONG (2 ^ 32) unsigned (λ n h. ap unsigned (number-le w32 n (inr (inl refl)) h)) (λ _ _. refl) (λ _ _ _. refl) all_free

-- LONG8: numbers of 8 bytes
pub are_long8s : AreNumbers LONG8 (2 ^ 64) unsigned_big
are_long8s =
    are_read LONG8 (2 ^ 64) unsigned_big (λ n h. ap unsigned_big (number-le w64 n (inr (inr refl)) h)) (λ _ _. refl) (λ _ _ _. refl) all_free
