-- Where a page is linked.
use Rattle.std.proofs.Common.{◌≡◌, ◌≢◌, inl, inr, ℕ, ◌+◌, ◌*◌, ◌^◌, ◌<◌, ◌≤◌, Bool, true, false, ◌&&◌, List, [], ◌∷◌, length, drop, get_or, length-drop, min, set, Option, Some, Result, Ok, Err, if◌then◌else◌, nat_le, refl, ap, sym, ◌∙◌, subst, arith}
use Rattle.std.proofs.lemmas.Bool.{cases_lt, eq-eqb, leb-true, lt-leb, ne_eqb}
use Rattle.std.proofs.lemmas.List.{get_or_past}
use Rattle.std.proofs.Math.Seq.{set_out}
use Rattle.std.specs.FinMap.{get}
use Rattle.tiff_base.specs.declared.error.TiffError.{TiffError}
use Rattle.tiff_base.specs.declared.error.TiffError.TheVariants.{FormatError, IoError, OutOfMemory}
use Rattle.tiff_base.specs.declared.error.TiffFormatError.TheVariants.{ImageFileDirectoryNotFound, RequiredTagNotFound}
use Rattle.tiff_base.specs.declared.io.IoKind.TheVariants.{InvalidInput}
use Rattle.tiff_base.specs.declared.tags.ByteOrder.TheVariants.{LittleEndian}
use Rattle.tiff_base.specs.declared.tags.FileKind.{FileKind}
use Rattle.tiff_base.specs.declared.tags.Tag.TheVariants.{SubIfd}
use Rattle.tiff_base.specs.Directory.{directory_at}
use Rattle.tiff_base.specs.Field.{DirectoryRecord, Field}
use Rattle.tiff_ifd.specs.TagLookup.{ok_or_fault}
use Rattle.tiff_value.specs.FileBytes.{offset_len}
use Rattle.tiff_base.specs.lemmas.Slices.{ok_inj}
use Rattle.tiff_append.specs.Behind.{RefusesLink}
use Rattle.tiff_append.specs.lemmas.Behind.{out_of_memory}
use Rattle.tiff_ffi.specs.Pages.{◌>>=◌, links_at, place_of, placed_at, slot_at, sub_ifds, within}
use Rattle.tiff_ffi.proofs.PagesMade.{drop_here}

none_by : (front back : Bool) (q : ℕ) → back ≡ false
    → let r : Result ℕ TiffError =
    if front && back then Ok q else Err (IoError InvalidInput) in let e : Result ℕ TiffError =
    Err (IoError InvalidInput) in r ≡ e
none_by true true q h = absurd (cc)
none_by true false q h = refl
none_by false back q h = refl

-- a link that no file has room for
far_link : (kind : FileKind) (floor len q : ℕ) → len < 2 ^ 64 → 2 ^ 64 ≤ q
    → within kind floor len q ≡ Err (IoError InvalidInput)
far_link kind floor len q short far =
    none_by (nat_le floor q) (nat_le (q + offset_len kind) len) q (lt-leb (q
    + offset_len kind) len (omega (arith, short, far)))

not_below : (x : ℕ) → (x < 2 ^ 64 → ⊥) → 2 ^ 64 ≤ x
not_below x high =
    elim (cases_lt x (2 ^ 64)) [ inl below ↦ absurd (high below) | inr behind ↦ behind ]

module _ (kind : FileKind) (floor : ℕ) (file : List ℕ) (at index : ℕ) (directory : DirectoryRecord)
    (f : Field) (read : directory_at kind LittleEndian file at ≡ Ok directory)
    (found : get directory.entries sub_ifds ≡ Some f) (short : length file < 2 ^ 64) where
  abbrev Listed : DirectoryRecord → Result Field TiffError
  Listed d = ok_or_fault (get d.entries sub_ifds) (FormatError (RequiredTagNotFound SubIfd))

  abbrev Linked : DirectoryRecord → Field → Result ℕ TiffError
  Linked d e = within kind floor (length file) (links_at kind at d e + offset_len kind * index)

  slot_by : slot_at kind floor file at index ≡ Linked directory f
  slot_by =
      ap (λ (r : Result DirectoryRecord TiffError). r >>= λ d. Listed d >>= Linked d) read
      ∙ ap (λ (o : Option Field). ok_or_fault o (FormatError (RequiredTagNotFound SubIfd))
      >>= Linked directory) found

  pub far_links : (links_at kind at directory f < 2 ^ 64 → ⊥)
      → slot_at kind floor file at index ≡ Err (IoError InvalidInput)
  far_links high =
      let far = not_below (links_at kind at directory f) high in
      slot_by ∙ far_link kind floor (length file) (links_at kind at directory f
      + offset_len kind * index) short (omega (arith, far))

  pub far_slot : (start : ℕ) → start ≡ links_at kind at directory f
      → (start + offset_len kind * index < 2 ^ 64 → ⊥)
      → slot_at kind floor file at index ≡ Err (IoError InvalidInput)
  far_slot start is high =
      let far = not_below (start + offset_len kind * index) high in
      slot_by ∙ far_link kind floor (length file) (links_at kind at directory f
      + offset_len kind * index) short (omega (arith, far, is))

-- ---- a link is within the file, and not before the floor

within_by : (front back : Bool) (q slot : ℕ) → let r : Result ℕ TiffError =
    if front && back then Ok q else Err (IoError InvalidInput) in let s : Result ℕ TiffError =
    Ok slot in r ≡ s
    → (front ≡ true) × (back ≡ true) × (q ≡ slot)
within_by true true q slot h = (refl, refl, ok_inj q slot h)
within_by true false q slot h = absurd (cc)
within_by false back q slot h = absurd (cc)

within_bounds : (kind : FileKind) (floor len q slot : ℕ) → within kind floor len q ≡ Ok slot
    → (floor ≤ slot) × (slot + offset_len kind ≤ len)
within_bounds kind floor len q slot h =
    let w = within_by (nat_le floor q) (nat_le (q + offset_len kind) len) q slot h in
    let front = leb-true floor q w.0 in
    let back = leb-true (q + offset_len kind) len w.1 in
    let is = w.2 in
    (omega (arith, front, is), omega (arith, back, is))

pub bound : {A B : Type 0} (r : Result A TiffError) (f : A → Result B TiffError) (y : B)
    → r >>= f ≡ Ok y → (x : A) × (f x ≡ Ok y)
bound (Ok x) f y h = (x, h)
bound (Err e) f y h = absurd (cc)

pub slot_bounds : (kind : FileKind) (floor : ℕ) (file : List ℕ) (at index slot : ℕ)
    → slot_at kind floor file at index ≡ Ok slot
    → (floor ≤ slot) × (slot + offset_len kind ≤ length file)
slot_bounds kind floor file at index slot h =
    let Linked : DirectoryRecord → Field → Result ℕ TiffError =
    λ d f. within kind floor (length file) (links_at kind at d f + offset_len kind * index) in
    let Listed : DirectoryRecord → Result Field TiffError =
    λ d. ok_or_fault (get d.entries sub_ifds) (FormatError (RequiredTagNotFound SubIfd)) in
    let d =
    bound (directory_at kind LittleEndian file at) (λ directory. Listed directory
    >>= Linked directory) slot h in
    let f = bound (Listed d.0) (Linked d.0) slot d.1 in
    within_bounds kind floor (length file) (links_at kind at d.0 f.0
    + offset_len kind * index) slot f.1

-- The only error of jobs at such a link is that of memory.
pub slot_out : (kind same : FileKind) (floor : ℕ) (file : List ℕ) (at index slot : ℕ)
    (e : TiffError) → kind ≡ same → slot_at kind floor file at index ≡ Ok slot
    → RefusesLink (length file) slot (offset_len same) e → e ≡ OutOfMemory
slot_out kind same floor file at index slot e is found refused =
    let Within : FileKind → Type 0 = λ k. slot + offset_len k ≤ length file in
    out_of_memory (length file) slot (offset_len same) e (subst Within is (slot_bounds kind floor file at index slot found).1) refused

-- ---- the directory of a page

module _ (places : List ℕ) (page : ℕ) where
  abbrev Absent : Result ℕ TiffError
  Absent = Err (FormatError ImageFileDirectoryNotFound)

  pub placed : get_or places page 0 ≢ 0 → place_of places page ≡ Ok (get_or places page 0)
  placed some = rw (ne_eqb (get_or places page 0) 0 some) refl

  pub not_placed : get_or places page 0 ≡ 0 → place_of places page ≡ Absent
  not_placed none = rw (eq-eqb (get_or places page 0) 0 none) refl

  pub no_place : length places ≤ page → place_of places page ≡ Absent
  no_place past = not_placed (get_or_past places page 0 past)

pub out_of_places : (places : List ℕ) (page at : ℕ) → length places ≤ page
    → places ≡ set places page at
out_of_places places page at past = sym (set_out places page at past)

-- ---- the directories of the chain

no_numbers : (numbers offsets places : List ℕ) → length numbers ≡ 0
    → placed_at places numbers offsets ≡ places
no_numbers [] offsets places none = refl
no_numbers (n ∷ numbers) offsets places none = absurd (omega (arith, none))

no_offsets : (numbers offsets places : List ℕ) → length offsets ≡ 0
    → placed_at places numbers offsets ≡ places
no_offsets [] offsets places none = refl
no_offsets (n ∷ numbers) [] places none = refl
no_offsets (n ∷ numbers) (at ∷ offsets) places none = absurd (omega (arith, none))

module _ (numbers offsets places : List ℕ) (i : ℕ) where
  -- all offsets are put
  pub all_placed : min (length numbers) (length offsets) ≤ i
      → placed_at places (drop i numbers) (drop i offsets) ≡ places
  all_placed past =
      elim (cases_lt i (length numbers)) [
        | inl below ↦ no_offsets (drop i numbers) (drop i offsets) places
            (omega (arith, length-drop i offsets, past, below))
        | inr behind ↦ no_numbers (drop i numbers) (drop i offsets) places
            (omega (arith, length-drop i numbers, behind))
      ]

  -- one more offset is put
  pub one_placed : i < length numbers → i < length offsets
      → placed_at places (drop i numbers) (drop i offsets)
      ≡ placed_at (set places (get_or numbers i 0) (get_or offsets i 0)) (drop (i
      + 1) numbers) (drop (i + 1) offsets)
  one_placed here there =
      ap (λ (ns : List ℕ). placed_at places ns (drop i offsets)) (drop_here numbers i 0 here)
      ∙ ap (λ (os : List ℕ). placed_at places (get_or numbers i 0
      ∷ drop (i + 1) numbers) os) (drop_here offsets i 0 there)
