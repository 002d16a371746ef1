-- The fields of a directory as its entries contain them.
use Rattle.std.proofs.Common.{◌≡◌, ℕ, List, [], ◌∷◌, ◌++◌, length, take, T, ◌&&◌, refl, ap, sym, ◌∙◌, inl, inr, subst, arith, length-append}
use Rattle.std.proofs.lemmas.List.{take_at, length-take-le, length-map}
use Rattle.std.specs.Prelude.{map}
use Rattle.std.specs.List.{flat_map}
use Rattle.std.specs.Ordering.{nat_cmp, is_lt}
use Rattle.std.specs.FinMap.{FinMap, len, entries, is_sorted, entries_sorted, len-entries}
use Rattle.std.specs.FinMap.Entries.{below_all}
use Rattle.tiff_base.specs.declared.tags.FileKind.{FileKind}
use Rattle.tiff_base.specs.declared.tags.FileKind.TheVariants.{Classic, Big}
use Rattle.tiff_base.specs.Tags.{type_number}
use Rattle.tiff_base.specs.Field.{Field}
use Rattle.tiff_base.specs.Number.{le}
use Rattle.tiff_value.specs.FileBytes.{offset_len, count_len, entry_bytes, directory_bytes}
use Rattle.tiff_value.specs.Model.{In}
use Rattle.tiff_value.specs.WriteOps.{standing_field, standing_fields}
use Rattle.tiff_value.specs.FileLaws.{IsListable}
use Rattle.tiff_value.specs.lemmas.File.Entries.{IsWritable, AllWritable, entries_of}

-- an entry as the file contains it
abbrev pub standing_entry : FileKind → ℕ × Field → ℕ × Field
standing_entry kind e = (e.0, standing_field kind e.1)

-- entries that can be written
abbrev pub AllListable : FileKind → List (ℕ × Field) → Type 0
AllListable kind es = (e : ℕ × Field) → In e es → IsListable kind e.0 e.1

-- ---- the map

-- a key is below the same entries in the file
below_map : (kind : FileKind) (q : ℕ) (es : List (ℕ × Field))
    → below_all nat_cmp q (map (standing_entry kind) es) ≡ below_all nat_cmp q es
below_map kind q [] = refl
below_map kind q (e ∷ es) = ap (λ b. is_lt (nat_cmp q e.0) && b) (below_map kind q es)

-- the entries in the file have the same order
sorted_map : (kind : FileKind) (es : List (ℕ × Field))
    → is_sorted nat_cmp (map (standing_entry kind) es) ≡ is_sorted nat_cmp es
sorted_map kind [] = refl
sorted_map kind (e ∷ es) = λ i. below_map kind e.0 es i && sorted_map kind es i

-- the entries of the fields in the file
pub entries_standing : (kind : FileKind) (fields : FinMap nat_cmp Field)
    → entries (standing_fields kind fields) ≡ map (standing_entry kind) (entries fields)
entries_standing kind fields =
    entries_of (map (standing_entry kind) (entries fields))
    (subst T (sym (sorted_map kind (entries fields))) (entries_sorted fields))

-- the file contains as many entries as the directory has
pub len_standing : (kind : FileKind) (fields : FinMap nat_cmp Field)
    → len (standing_fields kind fields) ≡ len fields
len_standing kind fields =
    len-entries (standing_fields kind fields) ∙ ap length (entries_standing kind fields)
    ∙ length-map (entries fields) (standing_entry kind) ∙ sym (len-entries fields)

-- ---- bytes

-- the first four of eight bytes
four : (v : List ℕ) → length v ≡ 8 → length (take 4 v) ≡ 4
four v l = length-take-le 4 v (omega (arith, l))

-- an entry has the same bytes as in the file
entry_standing : (kind : FileKind) (e : ℕ × Field) → IsListable kind e.0 e.1
    → entry_bytes kind (standing_entry kind e) ≡ entry_bytes kind e
entry_standing Classic e w =
    let t : take 4 (take 4 e.1.value ++ (0 ∷ 0 ∷ 0 ∷ 0 ∷ [])) ≡ take 4 e.1.value =
    take_at (take 4 e.1.value) (0 ∷ 0 ∷ 0 ∷ 0 ∷ []) 4 (four e.1.value w.whole) in
    ap (λ (v : List ℕ). le 2 e.0 ++ (le 2 (type_number e.1.field_type)
    ++ (le (offset_len Classic) e.1.count ++ v))) t
entry_standing Big e w = refl

-- all entries have the same bytes as in the file
all_standing : (kind : FileKind) (es : List (ℕ × Field)) → AllListable kind es
    → flat_map (entry_bytes kind) (map (standing_entry kind) es) ≡ flat_map (entry_bytes kind) es
all_standing kind [] w = refl
all_standing kind (e ∷ es) w =
    λ i. entry_standing kind e (w e (inl refl)) i ++ all_standing kind es (λ x j. w x (inr j)) i

-- a directory has the same bytes as in the file
pub bytes_standing : (kind : FileKind) (fields : FinMap nat_cmp Field)
    → AllListable kind (entries fields)
    → directory_bytes kind fields ≡ directory_bytes kind (standing_fields kind fields)
unfolding directory_bytes
bytes_standing kind fields w =
    let body : flat_map (entry_bytes kind) (entries (standing_fields kind fields))
    ≡ flat_map (entry_bytes kind) (entries fields) =
    ap (flat_map (entry_bytes kind)) (entries_standing kind fields)
    ∙ all_standing kind (entries fields) w in
    sym (λ i. le (count_len kind) (len_standing kind fields i)
    ++ (body i ++ le (offset_len kind) 0))

-- ---- fields that can be written

-- the file kinds differ
big_classic : let a : FileKind = Big in a ≡ Classic → ⊥
big_classic s = cc

-- a field from its entry can be written as it is
field_standing : (kind : FileKind) (e : ℕ × Field) → IsListable kind e.0 e.1
    → IsWritable kind e.0 (standing_field kind e.1)
field_standing Classic e w =
    let zeros : List ℕ = 0 ∷ 0 ∷ 0 ∷ 0 ∷ [] in
    let v : List ℕ = take 4 e.1.value in
    let l : length v ≡ 4 = four e.1.value w.whole in
    record {
      tag_fits = w.tag_fits;
      count = w.count;
      whole = omega (arith, length-append v zeros, l);
      filled = λ _. ap (λ x. x ++ zeros) (sym (take_at v zeros 4 l));
    }
field_standing Big e w =
    record { tag_fits = w.tag_fits; count = w.count; whole = w.whole; filled = λ s. absurd (big_classic s) }

-- each entry from the file can be written
map_writable : (kind : FileKind) (es : List (ℕ × Field)) → AllListable kind es
    → AllWritable kind (map (standing_entry kind) es)
map_writable kind [] w x i = absurd i
map_writable kind (e ∷ es) w x i = elim i [
  | inl s ↦ (let P : ℕ × Field → Type 0 = λ y. IsWritable kind y.0 y.1 in
      subst P (sym s) (field_standing kind e (w e (inl refl))))
  | inr j ↦ map_writable kind es (λ y k. w y (inr k)) x j
]

-- the fields from the file can be written
pub standing_writable : (kind : FileKind) (fields : FinMap nat_cmp Field)
    → AllListable kind (entries fields)
    → AllWritable kind (entries (standing_fields kind fields))
standing_writable kind fields w =
    let P : List (ℕ × Field) → Type 0 = λ es. AllWritable kind es in
    subst P (sym (entries_standing kind fields)) (map_writable kind (entries fields) w)
