-- The model of a file grows by bytes, fields and directories.
use Rattle.std.proofs.Common.{◌≡◌, ◌≢◌, ℕ, ◌+◌, ◌*◌, ◌^◌, ◌<◌, ◌≤◌, ◌⊎◌, List, [], ◌++◌, length, take, Bool, true, false, cond, eqb, leb, Result, Ok, Err, refl, ap, sym, ◌∙◌, inl, inr, subst, arith, lit<, append_assoc, append-nil, length-append}
use Rattle.std.proofs.lemmas.Bool.{eq-eqb, ne_eqb, le-leb, lt-leb, cases_Bool, leb-true, leb-false}
use Rattle.std.specs.List.{flat_map}
use Rattle.std.specs.FinMap.{FinMap, len, entries, len-entries}
use Rattle.std.specs.Ordering.{nat_cmp}
use Rattle.tiff_base.specs.declared.error.TiffError.{TiffError}
use Rattle.tiff_base.specs.declared.error.TiffError.TheVariants.{LimitsExceeded}
use Rattle.tiff_base.specs.declared.tags.FileKind.{FileKind}
use Rattle.tiff_base.specs.declared.tags.FileKind.TheVariants.{Classic, Big}
use Rattle.tiff_base.specs.declared.tags.ByteOrder.TheVariants.{LittleEndian}
use Rattle.tiff_base.specs.Field.{Field}
use Rattle.tiff_base.specs.FieldBytes.{field_len, field_offset, field_bytes}
use Rattle.tiff_base.specs.SourceAndSink.{exactly_at}
use Rattle.tiff_base.specs.Number.{number_at, le}
use Rattle.tiff_base.specs.Directory.{count_width, offset_width, entry_len, entries_from, last_of_each, link, first_entry, directory_at}
use Rattle.tiff_value.specs.FileBytes.{offset_len, count_len, entry_bytes, directory_bytes}
use Rattle.tiff_value.specs.Model.{BytesAreApart, In, FinishedDirectory, SuppliedField, ByteRegion, Model, header_link, own_link, IsLink, IsClear, body_len, whole_len, IsApart, FileContains, with_directory, with_supplied}
use Rattle.tiff_value.specs.FileLaws.{GrownByRegion, GrownByInline, GrownByPlaced, GrownByListing, FinishStep}
use Rattle.tiff_value.specs.WriteOps.{standing_fields}
use Rattle.tiff_base.specs.lemmas.Slices.{is_exact, exact_end, length-le, number_mid, is_offset_width, is_count_width}
use Rattle.tiff_value.specs.lemmas.File.Kept.{directory_from, directory_within, kept_by_appending, kept_by_patching}
use Rattle.tiff_value.specs.lemmas.File.Header.{zero_fits}
use Rattle.tiff_value.specs.lemmas.File.Entries.{AllWritable, length-entries, entries_read, last_of_entries}
use Rattle.tiff_value.specs.lemmas.File.FileAndModel.{len_standing, bytes_standing, standing_writable}

-- ---- bytes

-- appended bytes are a region of the model
pub grown_by_region : GrownByRegion
grown_by_region kind m file more h =
    let g = kept_by_appending kind m file more h in
    let new : ByteRegion = record { offset = length file; bytes = more } in
    let behind : (r : ByteRegion) → In r m.regions
    → r.offset + length r.bytes ≤ length file = h.within in
    record {
      header = g.header;
      first = g.first;
      directories = g.directories;
      counts = g.counts;
      supplied = g.supplied;
      regions = λ r i. elim i [
        | inl e ↦ (let P : ByteRegion → Type 0 = λ x. exactly_at (file ++ more) x.offset (length x.bytes) ≡ Ok x.bytes in
            subst P (sym e) (exact_end file more))
        | inr j ↦ g.regions r j
      ];
      within = λ r i. elim i [
        | inl e ↦ (let P : ByteRegion → Type 0 = λ x. x.offset + length x.bytes ≤ length (file ++ more) in
            subst P (sym e) (omega (arith, length-append file more)))
        | inr j ↦ g.within r j
      ];
      disjoint = λ r s i j. elim i [
        | inl e ↦ elim j [
          | inl f ↦ inl (e ∙ sym f)
          | inr b ↦ (let P : ByteRegion → Type 0 =
              λ x. (x ≡ s) ⊎ BytesAreApart x.offset (length x.bytes) s.offset (length s.bytes) in
              subst P (sym e) (inr (inr (behind s b))))
        ]
        | inr a ↦ elim j [
          | inl f ↦ (let P : ByteRegion → Type 0 =
              λ x. (r ≡ x) ⊎ BytesAreApart r.offset (length r.bytes) x.offset (length x.bytes) in
              subst P (sym f) (inr (inl (behind r a))))
          | inr b ↦ h.disjoint r s a b
        ]
      ];
      directories_within = g.directories_within;
      directories_apart = h.directories_apart;
      regions_apart = λ d r i j. elim j [
        | inl e ↦ (let P : ByteRegion → Type 0 = λ x. BytesAreApart d.offset (whole_len kind d) x.offset (length x.bytes) in
            subst P (sym e) (inl (h.directories_within d i)))
        | inr b ↦ h.regions_apart d r i b
      ];
      apart = λ q l.
          let a = g.apart q l in
          let f = (h.apart q l).within in
          record {
            header = a.header;
            within = a.within;
            directories = a.directories;
            supplied = a.supplied;
            regions = λ r i. elim i [
              | inl e ↦ (let P : ByteRegion → Type 0 = λ x. IsClear kind q x.offset (length x.bytes) in
                  subst P (sym e) (inr f))
              | inr j ↦ a.regions r j
            ];
            links = a.links;
          };
    }

-- ---- fields

-- the model grows by a field whose bytes are readable and overlap no link
grown_by_supplied : (kind : FileKind) (m : Model) (file : List ℕ) (new : SuppliedField)
    → field_bytes kind LittleEndian file new.field ≡ Ok new.bytes
    → ((q : ℕ) → IsLink kind m q
    → (field_len new.field ≤ offset_len kind)
    ⊎ IsClear kind q (field_offset kind LittleEndian new.field) (field_len new.field))
    → FileContains kind file m → FileContains kind file (with_supplied m new)
grown_by_supplied kind m file new b c h = record {
  header = h.header;
  first = h.first;
  directories = h.directories;
  counts = h.counts;
  supplied = λ y i. elim i [
    | inl e ↦ (let P : SuppliedField → Type 0 = λ x. field_bytes kind LittleEndian file x.field ≡ Ok x.bytes in
        subst P (sym e) b)
    | inr j ↦ h.supplied y j
  ];
  regions = h.regions;
  within = h.within;
  disjoint = h.disjoint;
  directories_within = h.directories_within;
  directories_apart = h.directories_apart;
  regions_apart = h.regions_apart;
  apart = λ q l.
      let a = h.apart q l in
      record {
        header = a.header;
        within = a.within;
        directories = a.directories;
        supplied = λ y i. elim i [
          | inl e ↦ (let P : SuppliedField → Type 0 =
              λ x. (field_len x.field ≤ offset_len kind)
              ⊎ IsClear kind q (field_offset kind LittleEndian x.field) (field_len x.field) in
              subst P (sym e) (c q l))
          | inr j ↦ a.supplied y j
        ];
        regions = a.regions;
        links = a.links;
      };
}

-- the bytes of a field that fits its entry
inline_bytes : (kind : FileKind) (file : List ℕ) (f : Field) → field_len f ≤ offset_len kind
    → field_len f < 2 ^ 64
    → field_bytes kind LittleEndian file f ≡ Ok (take (field_len f) f.value)
unfolding field_bytes
inline_bytes kind file f l b =
    let n : ℕ = field_len f in
    let x : Result (List ℕ) TiffError = Ok (take n f.value) in
    let y : Result (List ℕ) TiffError = exactly_at file (field_offset kind LittleEndian f) n in
    let z : Result (List ℕ) TiffError = Err LimitsExceeded in
    ap (λ t. cond t (cond (leb n (offset_len kind)) x y) z) (le-leb _ _ b)
    ∙ ap (λ t. cond t x y) (le-leb _ _ l)

-- the bytes of a field that has its value at an offset
placed_bytes : (kind : FileKind) (file : List ℕ) (f : Field) → offset_len kind < field_len f
    → field_len f < 2 ^ 64
    → field_bytes kind LittleEndian file f
    ≡ exactly_at file (field_offset kind LittleEndian f) (field_len f)
unfolding field_bytes
placed_bytes kind file f l b =
    let n : ℕ = field_len f in
    let x : Result (List ℕ) TiffError = Ok (take n f.value) in
    let y : Result (List ℕ) TiffError = exactly_at file (field_offset kind LittleEndian f) n in
    let z : Result (List ℕ) TiffError = Err LimitsExceeded in
    ap (λ t. cond t (cond (leb n (offset_len kind)) x y) z) (le-leb _ _ b)
    ∙ ap (λ t. cond t x y) (lt-leb _ _ l)

-- a value field is short
offset_short : (kind : FileKind) → offset_len kind < 2 ^ 64
offset_short Classic = lit< tt
offset_short Big = lit< tt

-- the model grows by a field whose bytes fit its entry
pub grown_by_inline : GrownByInline
grown_by_inline kind m file f l h =
    let s = offset_short kind in
    grown_by_supplied kind m file (record { field = f; bytes = take (field_len f) f.value })
    (inline_bytes kind file f l (omega (arith, s))) (λ q i. inl l) h

-- the model grows by a field whose bytes are a region
pub grown_by_placed : GrownByPlaced
grown_by_placed kind m file f r i p n l b h =
    let e : exactly_at file (field_offset kind LittleEndian f) (field_len f) ≡ Ok r.bytes =
    ap (λ (x : ℕ). exactly_at file x (field_len f)) p ∙ ap (λ (x : ℕ). exactly_at file r.offset x) n
    ∙ h.regions r i in
    let c : (q : ℕ) → IsLink kind m q
    → (field_len f ≤ offset_len kind)
    ⊎ IsClear kind q (field_offset kind LittleEndian f) (field_len f) = λ q j.
    let P : ℕ → Type 0 = λ x. IsClear kind q x (field_len f) in
    let Q : ℕ → Type 0 = λ x. IsClear kind q r.offset x in
    inr (subst P (sym p) (subst Q (sym n) ((h.apart q j).regions r i))) in
    grown_by_supplied kind m file (record { field = f; bytes = r.bytes })
    (placed_bytes kind file f l b ∙ e) c h

-- ---- directories

-- if the second test doesn't hold and the result is a success, it is the last result
last_answer : {A : Type 0} (a b : Bool) (x y : Result A TiffError) (e : TiffError) (z : A)
    → b ≡ false
    → cond a (cond b x y) (Err e) ≡ Ok z → y ≡ Ok z
last_answer true true x y e z f h = absurd cc
last_answer true false x y e z f h = h
last_answer false b x y e z f h = absurd cc

-- the bytes of a field with its value at an offset are within the file
placed_within : (kind : FileKind) (file : List ℕ) (f : Field) (b : List ℕ)
    → offset_len kind < field_len f
    → field_bytes kind LittleEndian file f ≡ Ok b
    → field_offset kind LittleEndian f + field_len f ≤ length file
unfolding field_bytes
placed_within kind file f b l e =
    let n : ℕ = field_len f in
    let x : Result (List ℕ) TiffError = Ok (take n f.value) in
    let y : Result (List ℕ) TiffError = exactly_at file (field_offset kind LittleEndian f) n in
    let o = last_answer _ (leb n (offset_len kind)) x y LimitsExceeded b (lt-leb _ _ l) e in
    let w = (is_exact file (field_offset kind LittleEndian f) n b o).0 in
    omega (arith, w)

-- a link has at least one byte
wide : (kind : FileKind) → 0 < offset_len kind
wide Classic = lit< tt
wide Big = lit< tt

-- a directory is appended
module _ (kind : FileKind) (m : Model) (file : List ℕ) (fields : FinMap nat_cmp Field)
    (w : AllWritable kind (entries fields))
    (b : len fields < 256 ^ count_len kind) (h : FileContains kind file m) where
  -- the appended directory, the offset of its link, and the file with it
  abbrev fresh : FinishedDirectory
  fresh = record { offset = length file; fields = fields }

  abbrev own : ℕ
  own = own_link kind fresh

  abbrev grown_file : List ℕ
  grown_file = file ++ directory_bytes kind fields

  -- the length of its entries
  length-body : length (flat_map (entry_bytes kind) (entries fields)) ≡ entry_len kind * len fields
  length-body =
      length-entries kind (entries fields) w
      ∙ ap (λ (n : ℕ). entry_len kind * n) (sym (len-entries fields))

  -- the count of the appended directory is readable
  count_at : number_at LittleEndian (count_width kind) grown_file (length file) ≡ Ok (len fields)
  unfolding directory_bytes
  count_at =
      let B : List ℕ = flat_map (entry_bytes kind) (entries fields) in
      let Z : List ℕ = le (offset_len kind) 0 in
      number_mid (count_width kind) file (B ++ Z) (length file) (len fields) (is_count_width kind) refl b

  -- the fields of the appended directory are readable
  fields_at : last_of_each (entries_from kind LittleEndian grown_file (first_entry kind (length file)) (len fields))
      ≡ fields
  unfolding directory_bytes
  fields_at =
      let first : ℕ = first_entry kind (length file) in
      let es : List (ℕ × Field) = entries fields in
      let n : ℕ = len fields in
      let C : List ℕ = le (count_len kind) n in
      let B : List ℕ = flat_map (entry_bytes kind) es in
      let Z : List ℕ = le (offset_len kind) 0 in
      let g : file ++ (C ++ (B ++ Z)) ≡ (file ++ C) ++ (B ++ Z) =
      sym (append_assoc file C (B ++ Z)) in
      let l : length (file ++ C) ≡ first =
      omega (arith, length-append file C, length-le 0 (count_len kind) n) in
      ap (λ (f : List ℕ). last_of_each (entries_from kind LittleEndian f first n)) g
      ∙ ap (λ (k : ℕ). last_of_each (entries_from kind LittleEndian ((file ++ C)
      ++ (B ++ Z)) first k))
      (len-entries fields)
      ∙ ap last_of_each (entries_read kind es (file ++ C) Z first w l)
      ∙ last_of_entries fields

  -- the link of the appended directory is readable
  own_at : number_at LittleEndian (offset_width kind) grown_file own ≡ Ok 0
  unfolding directory_bytes
  own_at =
      let n : ℕ = len fields in
      let C : List ℕ = le (count_len kind) n in
      let B : List ℕ = flat_map (entry_bytes kind) (entries fields) in
      let Z : List ℕ = le (offset_len kind) 0 in
      let x = length-body in
      let l : length ((file ++ C) ++ B) ≡ own =
      omega (arith, length-append (file ++ C) B, length-append file C, length-le 0 (count_len kind) n, x) in
      let g : file ++ (C ++ (B ++ Z)) ≡ ((file ++ C) ++ B) ++ (Z ++ []) =
      sym (append_assoc file C (B ++ Z)) ∙ sym (append_assoc (file ++ C) B Z)
      ∙ ap (λ z. ((file ++ C) ++ B) ++ z) (sym (append-nil Z)) in
      ap (λ (f : List ℕ). number_at LittleEndian (offset_width kind) f own) g
      ∙ number_mid (offset_width kind) ((file ++ C)
      ++ B) [] own 0 (is_offset_width kind) l (zero_fits kind)

  -- the link of the appended directory is the end of the file
  length-grown : length grown_file ≡ own + offset_len kind
  unfolding directory_bytes
  length-grown =
      let n : ℕ = len fields in
      let C : List ℕ = le (count_len kind) n in
      let B : List ℕ = flat_map (entry_bytes kind) (entries fields) in
      let Z : List ℕ = le (offset_len kind) 0 in
      let x = length-body in
      omega (
        arith,
        length-append file (C ++ (B ++ Z)),
        length-append C (B ++ Z),
        length-append B Z,
        length-le 0 (count_len kind) n,
        length-le 0 (offset_len kind) 0,
        x,
      )

  -- the appended directory lies in the file
  fresh_within : length file + whole_len kind fresh ≤ length grown_file
  fresh_within = let x = length-grown in omega (arith, x)

  -- each earlier link lies in the earlier file
  old_within : (p : ℕ) → IsLink kind m p → p + offset_len kind ≤ length file
  old_within p l = (h.apart p l).within

  -- each earlier link differs from the link of the appended directory
  not_own : (p : ℕ) → p + offset_len kind ≤ length file → p ≢ own
  not_own p f s = let x = wide kind in omega arith

  -- the links are the earlier ones and the link of the appended directory
  links_of : (p : ℕ) → IsLink kind (with_directory kind m fresh) p → (IsLink kind m p) ⊎ (p ≡ own)
  links_of p l = elim l [
    | inl s ↦ inl (inl s)
    | inr y ↦ elim y.1.0 [ inl t ↦ inr (y.1.1 ∙ ap (λ d. own_link kind d) t) | inr j ↦ inl (inr (y.0, (j, y.1.1))) ]
  ]

  -- an earlier link overlaps no appended part
  old_apart : (q : ℕ) → IsLink kind m q → IsApart kind grown_file m q
      → IsApart kind grown_file (with_directory kind m fresh) q
  old_apart q k a =
      let f = old_within q k in
      record {
        header = a.header;
        within = a.within;
        directories = λ d i. elim i [
          | inl s ↦ (let P : FinishedDirectory → Type 0 = λ x. IsClear kind q x.offset (body_len kind x) in
              subst P (sym s) (inr f))
          | inr j ↦ a.directories d j
        ];
        supplied = a.supplied;
        regions = a.regions;
        links = λ p l. elim (links_of p l) [
          | inl o ↦ a.links p o
          | inr s ↦ inr (inr (omega (arith, s, f)))
        ];
      }

  -- the link of the appended directory overlaps nothing
  own_apart : IsApart kind grown_file (with_directory kind m fresh) own
  own_apart = record {
    header = (let x = old_within (header_link kind) (inl refl) in omega (arith, x));
    within = (let x = length-grown in omega (arith, x));
    directories = λ d i. elim i [
      | inl s ↦ (let P : FinishedDirectory → Type 0 = λ x. IsClear kind own x.offset (body_len kind x) in
          subst P (sym s) (inl (omega arith)))
      | inr j ↦ inl (let x = directory_within kind m file d j h in omega (arith, x))
    ];
    supplied = λ y i. elim (cases_Bool (leb (field_len y.field) (offset_len kind))) [
      | inl t ↦ inl (leb-true _ _ t)
      | inr f ↦ inr (inl (let x =
          placed_within kind file y.field y.bytes (leb-false _ _ f) (h.supplied y i) in
          omega (arith, x)))
    ];
    regions = λ r i. inl (let x = h.within r i in omega (arith, x));
    links = λ p l. elim (links_of p l) [
      | inl o ↦ inr (inl (let x = old_within p o in omega (arith, x)))
      | inr s ↦ inl s
    ];
  }

  -- all directories lie in the file
  all_within : FileContains kind grown_file m → (d : FinishedDirectory)
      → In d (with_directory kind m fresh).directories
      → d.offset + whole_len kind d ≤ length grown_file
  all_within g d i = elim i [
    | inl s ↦ (let P : FinishedDirectory → Type 0 = λ x. x.offset + whole_len kind x ≤ length grown_file in
        subst P (sym s) fresh_within)
    | inr j ↦ g.directories_within d j
  ]

  -- no two directories overlap
  all_apart : (d e : FinishedDirectory) → In d (with_directory kind m fresh).directories
      → In e (with_directory kind m fresh).directories
      → (d ≡ e) ⊎ BytesAreApart d.offset (whole_len kind d) e.offset (whole_len kind e)
  all_apart d e i j = elim i [
    | inl s ↦ elim j [
      | inl t ↦ inl (s ∙ sym t)
      | inr b ↦ (let P : FinishedDirectory → Type 0 =
          λ x. (x ≡ e) ⊎ BytesAreApart x.offset (whole_len kind x) e.offset (whole_len kind e) in
          subst P (sym s) (inr (inr (h.directories_within e b))))
    ]
    | inr a ↦ elim j [
      | inl t ↦ (let P : FinishedDirectory → Type 0 =
          λ x. (d ≡ x) ⊎ BytesAreApart d.offset (whole_len kind d) x.offset (whole_len kind x) in
          subst P (sym t) (inr (inl (h.directories_within d a))))
      | inr b ↦ h.directories_apart d e a b
    ]
  ]

  -- no directory overlaps a region
  all_apart_of_regions : (d : FinishedDirectory) (r : ByteRegion)
      → In d (with_directory kind m fresh).directories
      → In r m.regions
      → BytesAreApart d.offset (whole_len kind d) r.offset (length r.bytes)
  all_apart_of_regions d r i j = elim i [
    | inl s ↦ (let P : FinishedDirectory → Type 0 =
        λ x. BytesAreApart x.offset (whole_len kind x) r.offset (length r.bytes) in
        subst P (sym s) (inr (h.within r j)))
    | inr a ↦ h.regions_apart d r a j
  ]

  -- the model with the appended directory describes the file
  pub directory_stands : FileContains kind grown_file (with_directory kind m fresh)
  directory_stands =
      let g = kept_by_appending kind m file (directory_bytes kind fields) h in
      let links : ℕ → ℕ = λ p. cond (eqb p own) 0 (m.links p) in
      record {
        header = g.header;
        first = rw (ne_eqb (header_link kind) own
            (not_own (header_link kind) (old_within (header_link kind) (inl refl)))) g.first;
        directories = λ d i. elim i [
          | inl s ↦ (let P : FinishedDirectory → Type 0 = λ x.
              directory_at kind LittleEndian grown_file x.offset
              ≡ Ok (record { entries = x.fields; next = link (links (own_link kind x)) }) in
              subst P (sym s) (directory_from kind grown_file (length file) (len fields) fields
              (links own) count_at fields_at
              (own_at ∙ ap (λ t. Ok (cond t 0 (m.links own))) (sym (eq-eqb own own refl)))))
          | inr j ↦ rw (ne_eqb (own_link kind d) own
              (not_own (own_link kind d) (old_within (own_link kind d) (inr (d, (j, refl))))))
              (g.directories d j)
        ];
        counts = λ d i. elim i [
          | inl s ↦ (let P : FinishedDirectory → Type 0 =
              λ x. number_at LittleEndian (count_width kind) grown_file x.offset
              ≡ Ok (len x.fields) in
              subst P (sym s) count_at)
          | inr j ↦ g.counts d j
        ];
        supplied = g.supplied;
        regions = g.regions;
        within = g.within;
        disjoint = g.disjoint;
        directories_within = all_within g;
        directories_apart = all_apart;
        regions_apart = all_apart_of_regions;
        apart = λ q l. elim l [
          | inl s ↦ old_apart q (inl s) (g.apart q (inl s))
          | inr y ↦ elim y.1.0 [
            | inl t ↦ (let P : ℕ → Type 0 = λ x. IsApart kind grown_file (with_directory kind m fresh) x in
                subst P (sym (y.1.1 ∙ ap (λ d. own_link kind d) t)) own_apart)
            | inr j ↦ (let o : IsLink kind m q = inr (y.0, (j, y.1.1)) in old_apart q o (g.apart q o))
          ]
        ];
      }

-- an appended directory without a next one is part of the model
pub grown_by_listing : GrownByListing
grown_by_listing kind m file fields a h =
    let stood : FinMap nat_cmp Field = standing_fields kind fields in
    let d : FinishedDirectory = record { offset = length file; fields = stood } in
    let few : len stood < 256 ^ count_len kind =
    (let f = a.few in omega (arith, f, len_standing kind fields)) in
    let P : List ℕ → Type 0 =
    λ bytes. FileContains kind (file ++ bytes) (with_directory kind m d) in
    subst P (sym (bytes_standing kind fields a.each))
    (directory_stands kind m file stood (standing_writable kind fields a.each) few h)

-- a directory that a call appends and links to is part of the model
pub finished : FinishStep
finished kind m file fields parent a l i h =
    let d : FinishedDirectory =
    record { offset = length file; fields = standing_fields kind fields } in
    kept_by_patching kind (with_directory kind m d) (file
    ++ directory_bytes kind fields) parent (length file)
    (elim i [ inl x ↦ inl x | inr y ↦ inr (y.0, (inr y.1.0, y.1.1)) ]) l
    (grown_by_listing kind m file fields a h)
