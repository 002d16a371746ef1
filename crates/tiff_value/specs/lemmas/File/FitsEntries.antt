-- The entries of a directory stay entries if a field is added or removed.
use Rattle.std.proofs.Common.{◌≡◌, ℕ, zero, suc, ◌+◌, ◌*◌, ◌%◌, ◌^◌, ◌<◌, ◌≤◌, Bool, true, false, cond, List, [], ◌∷◌, ◌++◌, length, take, None, refl, ap, sym, ◌∙◌, inl, inr, subst, arith}
use Rattle.std.proofs.lemmas.List.{length-append, length-take-le}
use Rattle.std.specs.Prelude.{not, replicate}
use Rattle.std.specs.Cmp.{nat_cmp_total}
use Rattle.std.specs.FinMap.{FinMap, empty, insert, remove, entries, from_entries, entries_sorted, same_entries_map, same_map, get-entries, get-from_entries, get-remove, nat_cmp-IsAntisymmetric}
use Rattle.std.specs.FinMap.Entries.{find, where_key, find-where_key}
use Rattle.std.specs.Int.{w8, w16, w32, w64, byte_at, bytes_low_first}
use Rattle.std.specs.List.{flat_map}
use Rattle.std.specs.Ordering.{nat_cmp, eq_by_cmp}
use Rattle.tiff_base.specs.declared.tags.«Type».{«Type»}
use Rattle.tiff_base.specs.declared.tags.«Type».TheVariants.{BYTE, ASCII, SHORT, LONG, RATIONAL, SBYTE, UNDEFINED, SSHORT, SLONG, SRATIONAL, FLOAT, DOUBLE, IFD, LONG8, SLONG8, IFD8}
use Rattle.tiff_base.specs.declared.tags.FileKind.{FileKind}
use Rattle.tiff_base.specs.Field.{Field, IsEntry, AreEntries}
use Rattle.tiff_base.specs.Number.{le}
use Rattle.tiff_base.specs.Tags.{method_number, interpretation_number, planar_number, predictor_number, unit_number, format_number, extra_number}
use Rattle.tiff_base.specs.SourceAndSink.{AreOctets}
use Rattle.tiff_base.specs.Types.{type_size}
use Rattle.tiff_base.specs.lemmas.Maps.{entries_of_empty}
use Rattle.tiff_base.specs.lemmas.Fits.{Fit, none_fits, tree_fits}
use Rattle.tiff_value.specs.Data.{FieldData, Scalars, u8s, i8s, u16s, i16s, u32s, i32s, u64s, i64s, bits32s, bits64s, methods, interpretations, planars, predictors, units, formats, extras, ifds, ifd8s, rationals, srationals, signed_le, data_of, IsWhole}
use Rattle.tiff_value.specs.Fields.{filled_field, field_at, is_long}
use Rattle.tiff_value.specs.lemmas.File.Entries.{entries_of}

-- ---- the entries of a map

pub no_entries : AreEntries empty
no_entries = subst Fit (sym entries_of_empty) none_fits

-- a list that fits still fits with one more entry
more_fits : (x : ℕ × Field) (es : List (ℕ × Field)) → IsEntry x → Fit es → Fit (x ∷ es)
more_fits x es new old e (inl h) = subst IsEntry (sym h) new
more_fits x es new old e (inr h) = old e h

-- a map is equal to the map made of its entries
map_of_entries : (fields : FinMap nat_cmp Field) → from_entries (entries fields) ≡ fields
map_of_entries fields =
    same_entries_map (from_entries (entries fields)) fields (entries_of (entries fields) (entries_sorted fields))

pub insert_entries : (fields : FinMap nat_cmp Field) (k : ℕ) (f : Field) → IsEntry (k, f)
    → AreEntries fields
    → AreEntries (insert fields k f)
insert_entries fields k f new all =
    subst (λ m. AreEntries (insert m k f)) (map_of_entries fields)
    (tree_fits ((k, f) ∷ entries fields) (more_fits (k, f) (entries fields) new all))

-- the entries that pass a test fit
either_fits : (b : Bool) (x : ℕ × Field) (es : List (ℕ × Field)) → IsEntry x → Fit es
    → Fit (cond b (x ∷ es) es)
either_fits true x es new old = more_fits x es new old
either_fits false x es new old = old

chosen_fit : (p : ℕ → Bool) (es : List (ℕ × Field)) → Fit es → Fit (where_key nat_cmp p es)
chosen_fit p [] all = all
chosen_fit p (x ∷ es) all =
    either_fits (p x.0) x (where_key nat_cmp p es) (all x (inl refl)) (chosen_fit p es (λ e i. all e (inr i)))

turned : {A : Type 0} (b : Bool) (x y : A) → cond (not b) x y ≡ cond b y x
turned true x y = refl
turned false x y = refl

-- the entries without one key are those of the map without that key
removed : (fields : FinMap nat_cmp Field) (k : ℕ)
    → from_entries (where_key nat_cmp (λ q. not (eq_by_cmp nat_cmp q k)) (entries fields))
    ≡ remove fields k
removed fields k =
    let p : ℕ → Bool = λ q. not (eq_by_cmp nat_cmp q k) in
    let es : List (ℕ × Field) = where_key nat_cmp p (entries fields) in
    same_map nat_cmp_total nat_cmp-IsAntisymmetric (from_entries es) (remove fields k)
    (λ q. get-from_entries nat_cmp_total es q
    ∙ find-where_key nat_cmp p q (λ x t. ap p (sym (nat_cmp-IsAntisymmetric q x t))) (entries fields)
    ∙ turned (eq_by_cmp nat_cmp q k) (find nat_cmp q (entries fields)) None
    ∙ ap (cond (eq_by_cmp nat_cmp q k) None) (sym (get-entries fields q))
    ∙ sym (get-remove nat_cmp_total fields k q))

pub remove_entries : (fields : FinMap nat_cmp Field) (k : ℕ) → AreEntries fields
    → AreEntries (remove fields k)
remove_entries fields k all =
    let es : List (ℕ × Field) =
    where_key nat_cmp (λ q. not (eq_by_cmp nat_cmp q k)) (entries fields) in
    subst AreEntries (removed fields k) (tree_fits es (chosen_fit (λ q. not (eq_by_cmp nat_cmp q k)) (entries fields) all))

-- ---- bytes

-- each number of a list is a byte
abbrev pub AreBytes : List ℕ → Type 0
AreBytes [] = Unit {0}
AreBytes (x ∷ xs) = (x < 256) × AreBytes xs

bytes_joined : (xs ys : List ℕ) → AreBytes xs → AreBytes ys → AreBytes (xs ++ ys)
bytes_joined [] ys a b = b
bytes_joined (x ∷ xs) ys a b = (a.0, bytes_joined xs ys a.1 b)

bytes_taken : (n : ℕ) (xs : List ℕ) → AreBytes xs → AreBytes (take n xs)
bytes_taken zero xs a = tt
bytes_taken (suc n) [] a = tt
bytes_taken (suc n) (x ∷ xs) a = (a.0, bytes_taken n xs a.1)

zeros : (n : ℕ) → AreBytes (replicate n 0)
zeros zero = tt
zeros (suc n) = (omega arith, zeros n)

bytes_each : {A : Type 0} (f : A → List ℕ) → ((x : A) → AreBytes (f x)) → (xs : List A)
    → AreBytes (flat_map f xs)
bytes_each f h [] = tt
bytes_each f h (x ∷ xs) = bytes_joined (f x) (flat_map f xs) (h x) (bytes_each f h xs)

remainder : (n : ℕ) → n % 256 < 256
remainder n = omega arith

one_byte : (i n : ℕ) → byte_at i n < 256
one_byte zero n = remainder n
one_byte (suc i) n = remainder _

low_bytes : (i k n : ℕ) → AreBytes (bytes_low_first i k n)
low_bytes i zero n = tt
low_bytes i (suc k) n = (one_byte i n, low_bytes (suc i) k n)

pub le_bytes : (k n : ℕ) → AreBytes (le k n)
le_bytes k n = low_bytes 0 k n

-- a list of bytes is a list of octets
octets : (xs : List ℕ) → AreBytes xs → AreOctets xs
octets [] a k = omega arith
octets (x ∷ xs) a zero = a.0
octets (x ∷ xs) a (suc k) = octets xs a.1 k

-- the bytes of values are bytes
pub data_bytes : (values : Scalars) → AreBytes (data_of values).bytes
unfolding data_of
data_bytes (u8s ns) = bytes_each (le 1) (le_bytes 1) ns
data_bytes (i8s ns) = bytes_each (signed_le w8) (λ n. le_bytes 1 _) ns
data_bytes (u16s ns) = bytes_each (le 2) (le_bytes 2) ns
data_bytes (i16s ns) = bytes_each (signed_le w16) (λ n. le_bytes 2 _) ns
data_bytes (u32s ns) = bytes_each (le 4) (le_bytes 4) ns
data_bytes (i32s ns) = bytes_each (signed_le w32) (λ n. le_bytes 4 _) ns
data_bytes (u64s ns) = bytes_each (le 8) (le_bytes 8) ns
data_bytes (i64s ns) = bytes_each (signed_le w64) (λ n. le_bytes 8 _) ns
data_bytes (bits32s ns) = bytes_each (le 4) (le_bytes 4) ns
data_bytes (bits64s ns) = bytes_each (le 8) (le_bytes 8) ns
data_bytes (methods ms) = bytes_each (λ m. le 2 (method_number m)) (λ m. le_bytes 2 _) ms
data_bytes (interpretations is) =
    bytes_each (λ i. le 2 (interpretation_number i)) (λ i. le_bytes 2 _) is
data_bytes (planars ps) = bytes_each (λ p. le 2 (planar_number p)) (λ p. le_bytes 2 _) ps
data_bytes (predictors ps) = bytes_each (λ p. le 2 (predictor_number p)) (λ p. le_bytes 2 _) ps
data_bytes (units us) = bytes_each (λ u. le 2 (unit_number u)) (λ u. le_bytes 2 _) us
data_bytes (formats fs) = bytes_each (λ f. le 2 (format_number f)) (λ f. le_bytes 2 _) fs
data_bytes (extras es) = bytes_each (λ e. le 2 (extra_number e)) (λ e. le_bytes 2 _) es
data_bytes (ifds ns) = bytes_each (le 4) (le_bytes 4) ns
data_bytes (ifd8s ns) = bytes_each (le 8) (le_bytes 8) ns
data_bytes (rationals rs) =
    bytes_each (λ r. le 4 r.0 ++ le 4 r.1) (λ r. bytes_joined (le 4 r.0) (le 4 r.1) (le_bytes 4 r.0) (le_bytes 4 r.1)) rs
data_bytes (srationals rs) =
    bytes_each (λ r. signed_le w32 r.0 ++ signed_le w32 r.1)
    (λ r. bytes_joined (signed_le w32 r.0) (signed_le w32 r.1) (le_bytes 4 _) (le_bytes 4 _)) rs

-- ---- the entry of a value

-- a value of each type has at least one byte
some_size : (t : «Type») → 1 ≤ type_size t
some_size BYTE = omega arith
some_size ASCII = omega arith
some_size SHORT = omega arith
some_size LONG = omega arith
some_size RATIONAL = omega arith
some_size SBYTE = omega arith
some_size UNDEFINED = omega arith
some_size SSHORT = omega arith
some_size SLONG = omega arith
some_size SRATIONAL = omega arith
some_size FLOAT = omega arith
some_size DOUBLE = omega arith
some_size IFD = omega arith
some_size LONG8 = omega arith
some_size SLONG8 = omega arith
some_size IFD8 = omega arith

-- the number of values is at most the number of their bytes
few_values : (n size : ℕ) → 1 ≤ size → n ≤ n * size
few_values n (suc size) h = let e : n * suc size ≡ n + n * size = omega arith in omega (arith, e)
few_values n zero h = absurd (omega (arith, h))

-- the eight bytes of a value field are bytes
filled_bytes : (xs : List ℕ) → AreBytes xs → AreBytes (filled_field xs)
filled_bytes xs a =
    bytes_taken 8 (xs ++ replicate 8 0) (bytes_joined xs (replicate 8 0) a (zeros 8))

filled_length : (xs : List ℕ) → length (filled_field xs) ≡ 8
filled_length xs =
    length-take-le 8 (xs ++ replicate 8 0) (omega (arith, length-append xs (replicate 8 0)))

value_bytes : (long : Bool) (offset : ℕ) (xs : List ℕ) → AreBytes xs
    → AreBytes (cond long (le 8 offset) (filled_field xs))
value_bytes true offset xs a = le_bytes 8 offset
value_bytes false offset xs a = filled_bytes xs a

value_length : (long : Bool) (offset : ℕ) (xs : List ℕ)
    → length (cond long (le 8 offset) (filled_field xs)) ≡ 8
value_length true offset xs = refl
value_length false offset xs = filled_length xs

pub field_entry : (kind : FileKind) (offset t : ℕ) (value : FieldData) → t < 2 ^ 16 → IsWhole value
    → AreBytes value.bytes
    → length value.bytes < 2 ^ 64 → IsEntry (t, field_at kind offset value)
field_entry kind offset t value n w a l = record {
  tag = n;
  count =
      (let f = few_values value.count (type_size value.field_type) (some_size value.field_type) in
      omega (arith, f, w, l));
  whole = value_length (is_long kind value) offset value.bytes;
  octets = octets _ (value_bytes (is_long kind value) offset value.bytes a);
}
