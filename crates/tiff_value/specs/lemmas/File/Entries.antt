-- Entries and maps of fields are read back as written.
use Rattle.std.proofs.Common.{suc, ◌≡◌, ℕ, ◌+◌, ◌*◌, ◌^◌, ◌<◌, List, [], ◌∷◌, ◌++◌, length, take, reverse, Bool, true, false, cond, Option, Some, None, T, ◌&&◌, refl, ap, sym, ◌∙◌, inl, inr, arith, append_assoc, length-append}
use Rattle.std.proofs.lemmas.List.{take_at, take_all, length-take-le, reverse-append}
use Rattle.std.specs.Int.{w16}
use Rattle.std.specs.Option.{option_map}
use Rattle.std.specs.List.{filter_map, range_with_len, cons_option, flat_map}
use Rattle.std.specs.Ordering.{nat_cmp, is_lt, is_eq}
use Rattle.std.specs.Cmp.{nat_cmp_total}
use Rattle.std.specs.declared.cmp.Ordering.{Ordering}
use Rattle.std.specs.declared.cmp.Ordering.TheVariants.{Less, Equal, Greater}
use Rattle.std.specs.FinMap.{FinMap, find, put, is_sorted, empty, entries, from_entries, entries_sorted, same_entries_map, entries-insert, len-entries, len-empty, get-entries, get-from_entries, from_entries_push, nat_cmp-IsAntisymmetric}
use Rattle.std.specs.FinMap.Entries.{by_order, below_all}
use Rattle.tiff_base.specs.declared.tags.FileKind.{FileKind}
use Rattle.tiff_base.specs.declared.tags.FileKind.TheVariants.{Classic, Big}
use Rattle.tiff_base.specs.declared.tags.ByteOrder.TheVariants.{LittleEndian}
use Rattle.tiff_base.specs.declared.tags.«Type».{«Type»}
use Rattle.tiff_base.specs.declared.tags.«Type».TheVariants.{BYTE, ASCII, SHORT, LONG, RATIONAL, SBYTE, UNDEFINED, SSHORT, SLONG, SRATIONAL, FLOAT, DOUBLE, IFD, LONG8, SLONG8, IFD8}
use Rattle.tiff_base.specs.Tags.{type_number, type_of}
use Rattle.tiff_base.specs.Field.{Field}
use Rattle.tiff_base.specs.SourceAndSink.{bytes_at}
use Rattle.tiff_base.specs.Number.{number, le}
use Rattle.tiff_base.specs.Directory.{offset_width, entry_len, value_of, field_of, entry_of, entries_from, last_of_each}
use Rattle.tiff_value.specs.FileBytes.{offset_len, entry_bytes}
use Rattle.tiff_value.specs.Model.{In}
use Rattle.tiff_base.specs.lemmas.Slices.{exact_mid, is_exact, length-le, number-le, is_offset_width}

-- ---- the map of a sorted list

-- if a conjunction holds, both tests hold
and_parts : (a b : Bool) → T (a && b) → T a × T b
and_parts true b h = (tt, h)
and_parts false b h = absurd h

-- an order that tests as less is `Less`
less_than : (o : Ordering) → T (is_lt o) → o ≡ Less
less_than Less h = refl
less_than Equal h = absurd h
less_than Greater h = absurd h

-- a key below all others is not found
find_below : {X : Type 0} (q : ℕ) (es : List (ℕ × X)) → T (below_all nat_cmp q es)
    → find nat_cmp q es ≡ None
find_below q [] h = refl
find_below q (e ∷ es) h =
    let p = and_parts _ _ h in
    ap (λ o. cond (is_eq o) (Some e.1) (find nat_cmp q es)) (less_than (nat_cmp q e.0) p.0)
    ∙ find_below q es p.1

-- an entry below all others is put first
put_first : {X : Type 0} (k : ℕ) (v : X) (es : List (ℕ × X)) → T (below_all nat_cmp k es)
    → put nat_cmp k v es ≡ (k, v) ∷ es
put_first k v [] h = refl
put_first k v (e ∷ es) h =
    let p = and_parts _ _ h in
    ap (λ o. by_order o ((k, v) ∷ e ∷ es) ((e.0, v) ∷ es) (e
    ∷ put nat_cmp k v es)) (less_than (nat_cmp k e.0) p.0)

-- a list of length 0 is empty
none_long : {A : Type 0} (es : List A) → length es ≡ 0 → es ≡ []
none_long [] e = refl
none_long (x ∷ es) e = absurd (omega arith)

-- the empty map has no entries
entries-empty : {X : Type 0} → entries (empty {X = X} {R = nat_cmp}) ≡ []
entries-empty {X} = none_long (entries (empty {X = X} {R = nat_cmp}))
    (sym (len-entries (empty {X = X} {R = nat_cmp})) ∙ len-empty nat_cmp X)

-- the map of a sorted list has the list's entries
pub entries_of : {X : Type 0} (es : List (ℕ × X)) → T (is_sorted nat_cmp es)
    → entries (from_entries {R = nat_cmp} es) ≡ es
entries_of [] h = entries-empty
entries_of (e ∷ es) h =
    let p = and_parts _ _ h in
    entries-insert nat_cmp_total (from_entries es) e.0 e.1
    ∙ ap (put nat_cmp e.0 e.1) (entries_of es p.1)
    ∙ put_first e.0 e.1 es p.0

-- the map of a reversed sorted list has the list's entries
entries_of_reverse : {X : Type 0} (es : List (ℕ × X)) → T (is_sorted nat_cmp es)
    → entries (from_entries {R = nat_cmp} (reverse es)) ≡ es
entries_of_reverse [] h = entries-empty
entries_of_reverse {X} (e ∷ es) h =
    let p = and_parts _ _ h in
    let back = entries_of_reverse es p.1 in
    let m : FinMap nat_cmp X = from_entries (reverse es) in
    let none : find nat_cmp e.0 (reverse es) ≡ None =
    sym (get-from_entries nat_cmp_total (reverse es) e.0) ∙ get-entries m e.0
    ∙ ap (find nat_cmp e.0) back
    ∙ find_below e.0 es p.0 in
    ap (λ (l : List (ℕ × X)). entries (from_entries {R = nat_cmp} l)) (reverse-append (e ∷ []) es)
    ∙ ap (entries {R = nat_cmp}) (from_entries_push nat_cmp_total nat_cmp-IsAntisymmetric (reverse es) e.0 e.1 none)
    ∙ entries-insert nat_cmp_total m e.0 e.1
    ∙ ap (put nat_cmp e.0 e.1) back
    ∙ put_first e.0 e.1 es p.0

-- the map of the last entries of each key, made from a map's entries, is the map
pub last_of_entries : (fields : FinMap nat_cmp Field) → last_of_each (entries fields) ≡ fields
unfolding last_of_each
last_of_entries fields =
    same_entries_map (from_entries (reverse (entries fields))) fields
    (entries_of_reverse (entries fields) (entries_sorted fields))

-- ---- entries

-- a field that an entry contains as it is
pub record IsWritable (kind : FileKind) (tag : ℕ) (f : Field) : Type 0 where
  pub tag_fits : tag < 2 ^ 16
  pub count : f.count < 256 ^ offset_len kind
  pub whole : length f.value ≡ 8
  pub filled : (kind ≡ Classic) → f.value ≡ take 4 f.value ++ (0 ∷ 0 ∷ 0 ∷ 0 ∷ [])

-- a type read from its written number is the type
type_read : (t : «Type») → type_of (number LittleEndian w16 (le 2 (type_number t))) ≡ Some t
unfolding type_of number
type_read BYTE = refl
type_read ASCII = refl
type_read SHORT = refl
type_read LONG = refl
type_read RATIONAL = refl
type_read SBYTE = refl
type_read UNDEFINED = refl
type_read SSHORT = refl
type_read SLONG = refl
type_read SRATIONAL = refl
type_read FLOAT = refl
type_read DOUBLE = refl
type_read IFD = refl
type_read LONG8 = refl
type_read SLONG8 = refl
type_read IFD8 = refl

-- a value field is read back as written
value_read : (kind : FileKind) (e : ℕ × Field) → IsWritable kind e.0 e.1
    → value_of kind (entry_bytes kind e) ≡ e.1.value
value_read Classic e w =
    let v : List ℕ = e.1.value in
    let l = w.whole in
    ap (λ (x : List ℕ). x ++ (0 ∷ 0 ∷ 0 ∷ 0 ∷ []))
    (take_all 4 (take 4 v) (omega (arith, length-take-le 4 v (omega arith)))) ∙ sym (w.filled refl)
value_read Big e w =
    let v : List ℕ = e.1.value in
    let l = w.whole in
    take_all 8 (take 8 v) (omega (arith, length-take-le 8 v (omega arith)))
    ∙ take_all 8 v (omega arith)

-- an entry is read back as written
pub entry_read : (kind : FileKind) (e : ℕ × Field) → IsWritable kind e.0 e.1
    → entry_of kind LittleEndian (entry_bytes kind e) ≡ Some e
unfolding entry_of
entry_read kind e w =
    let k : ℕ = offset_len kind in
    let f : Field = e.1 in
    let S : List ℕ = entry_bytes kind e in
    let F : «Type» → ℕ × Field =
    λ t. (number LittleEndian w16 (bytes_at S 0 2), field_of kind LittleEndian S t) in
    let tag : number LittleEndian w16 (le 2 e.0) ≡ e.0 = number-le w16 e.0 (inl refl) w.tag_fits in
    let count : number LittleEndian (offset_width kind) (take k (le k f.count ++ take k f.value))
    ≡ f.count =
    ap (number LittleEndian (offset_width kind)) (take_at (le k f.count) (take k f.value) k (length-le 0 k f.count))
    ∙ number-le (offset_width kind) f.count (is_offset_width kind) w.count in
    let value = value_read kind e w in
    ap (option_map F) (type_read f.field_type)
    ∙ (λ i. Some (tag i, record { field_type = f.field_type; count = count i; value = value i }))

-- the length of an entry
pub length-entry : (kind : FileKind) (e : ℕ × Field) → IsWritable kind e.0 e.1
    → length (entry_bytes kind e) ≡ entry_len kind
length-entry Classic e w =
    let v : List ℕ = e.1.value in
    let l = w.whole in
    let t : length (take 4 v) ≡ 4 = length-take-le 4 v (omega arith) in
    omega (arith, t)
length-entry Big e w =
    let v : List ℕ = e.1.value in
    let l = w.whole in
    let t : length (take 8 v) ≡ 8 = length-take-le 8 v (omega arith) in
    omega (arith, t)

-- all entries of a list can be written
abbrev pub AllWritable : FileKind → List (ℕ × Field) → Type 0
AllWritable kind es = (e : ℕ × Field) → In e es → IsWritable kind e.0 e.1

-- the total length of some entries
pub length-entries : (kind : FileKind) (es : List (ℕ × Field)) → AllWritable kind es
    → length (flat_map (entry_bytes kind) es) ≡ entry_len kind * length es
length-entries kind [] w = omega arith
length-entries kind (e ∷ es) w =
    let a = length-entry kind e (w e (inl refl)) in
    let b = length-entries kind es (λ x i. w x (inr i)) in
    omega (arith, length-append (entry_bytes kind e) (flat_map (entry_bytes kind) es), a, b)

-- the entry read at index i from an offset
nth_entry : FileKind → ℕ → List ℕ → ℕ → Option (ℕ × Field)
nth_entry kind first file i =
    entry_of kind LittleEndian (bytes_at file (first + entry_len kind * i) (entry_len kind))

-- the entries from index a on are read back as written
entries_back : (kind : FileKind) (es : List (ℕ × Field)) (before rest : List ℕ) (first a : ℕ)
    → AllWritable kind es
    → length before ≡ first + entry_len kind * a
    → filter_map (nth_entry kind first (before ++ (flat_map (entry_bytes kind) es ++ rest)))
    (range_with_len a (length es)) ≡ es
unfolding nth_entry
entries_back kind [] before rest first a w l = refl
entries_back kind (x ∷ es) before rest first a w l =
    let n : ℕ = length es in
    let k : ℕ = entry_len kind in
    let X : List ℕ = entry_bytes kind x in
    let B : List ℕ = flat_map (entry_bytes kind) es in
    let wx = w x (inl refl) in
    let lx : length X ≡ k = length-entry kind x wx in
    let next : List ℕ = (before ++ X) ++ (B ++ rest) in
    let g : before ++ ((X ++ B) ++ rest) ≡ next =
    ap (λ z. before ++ z) (append_assoc X B rest) ∙ sym (append_assoc before X (B ++ rest)) in
    let here : bytes_at next (first + k * a) k ≡ X =
    ap (λ (f : List ℕ). bytes_at f (first + k * a) k) (append_assoc before X (B ++ rest))
    ∙ (is_exact (before ++ (X ++ (B ++ rest))) (first + k * a) k X
    (exact_mid before X (B ++ rest) (first + k * a) k l lx)).1 in
    let head : nth_entry kind first next a ≡ Some x =
    ap (entry_of kind LittleEndian) here ∙ entry_read kind x wx in
    let more : length (before ++ X) ≡ first + k * (a + 1) = omega (arith, length-append before X) in
    ap (λ (f : List ℕ). filter_map (nth_entry kind first f) (range_with_len a (suc n))) g
    ∙ ap (λ (o : Option (ℕ × Field)).
    cons_option o (filter_map (nth_entry kind first next) (range_with_len (a + 1) n))) head
    ∙ ap (λ (l : List (ℕ × Field)). x ∷ l)
    (entries_back kind es (before ++ X) rest first (a + 1) (λ y i. w y (inr i)) more)

-- all entries are read back as written
pub entries_read : (kind : FileKind) (es : List (ℕ × Field)) (before rest : List ℕ) (first : ℕ)
    → AllWritable kind es
    → length before ≡ first
    → entries_from kind LittleEndian (before ++ (flat_map (entry_bytes kind) es
    ++ rest)) first (length es) ≡ es
unfolding entries_from nth_entry
entries_read kind es before rest first w l =
    entries_back kind es before rest first 0 w (omega arith)
