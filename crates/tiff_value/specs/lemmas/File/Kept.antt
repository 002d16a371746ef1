-- What a model describes stays in the file if bytes are appended or one link is patched.
use Rattle.std.proofs.Common.{zero, suc, ◌≡◌, ℕ, ◌+◌, ◌*◌, ◌<◌, ◌≤◌, ◌⊎◌, List, ◌++◌, length, take, drop, Bool, true, false, cond, eqb, leb, Option, Some, None, Result, Ok, Err, refl, ap, sym, ◌∙◌, inl, inr, arith, length-append}
use Rattle.std.proofs.lemmas.Bool.{false≢true, cases_eq, eq-eqb, ne_eqb, le-leb}
use Rattle.std.proofs.Math.Nat.{mul-le-mul_left}
use Rattle.std.specs.List.{filter_map, range_with_len, cons_option}
use Rattle.std.specs.FinMap.{FinMap, len}
use Rattle.std.specs.Ordering.{nat_cmp}
use Rattle.tiff_base.specs.lemmas.Common.{bind_ok}
use Rattle.tiff_base.specs.declared.error.TiffError.{TiffError}
use Rattle.tiff_base.specs.declared.error.TiffError.TheVariants.{LimitsExceeded}
use Rattle.tiff_base.specs.declared.tags.FileKind.{FileKind}
use Rattle.tiff_base.specs.declared.tags.ByteOrder.TheVariants.{LittleEndian}
use Rattle.tiff_base.specs.Answers.{◌>>=◌}
use Rattle.tiff_base.specs.Field.{Field, DirectoryRecord}
use Rattle.tiff_base.specs.FieldBytes.{field_len, field_offset, field_bytes}
use Rattle.tiff_base.specs.SourceAndSink.{bytes_at, exactly_at, put}
use Rattle.tiff_base.specs.Number.{number, number_at, le}
use Rattle.tiff_base.specs.Directory.{count_width, offset_width, entry_len, entry_of, entries_from, last_of_each, link, first_entry, link_offset, directory_at}
use Rattle.tiff_value.specs.FileBytes.{offset_len, count_len, header_mark}
use Rattle.tiff_value.specs.Model.{In, FinishedDirectory, Model, header_link, own_link, IsClear, body_len, IsApart, FileContains, with_link}
use Rattle.tiff_value.specs.FileLaws.{KeptByAppending, KeptByPatching, KeptByTearing}
use Rattle.tiff_base.specs.lemmas.Slices.{ok_bind, ok_inj, exact, is_exact, exact_append, length_put, exact_put_before, exact_put_behind, exact_put_here, length-le, number-le, is_offset_width, number_kept}

-- another file contains the same bytes between two offsets
pub Keeps : List ℕ → List ℕ → ℕ → ℕ → Type 0
Keeps file new from to = (p n : ℕ) (s : List ℕ) → from ≤ p → p + n ≤ to → exactly_at file p n ≡ Ok s
    → exactly_at new p n ≡ Ok s

pub keeps : (file new : List ℕ) (from to : ℕ)
    → ((p n : ℕ) (s : List ℕ) → from ≤ p → p + n ≤ to → exactly_at file p n ≡ Ok s
    → exactly_at new p n ≡ Ok s)
    → Keeps file new from to
unfolding Keeps
keeps file new from to f = f

-- ---- entries

-- two functions that agree give the same list
pub filter_map_same : {A : Type 0} (f g : ℕ → Option A) (a n : ℕ)
    → ((i : ℕ) → a ≤ i → i < a + n → f i ≡ g i)
    → filter_map f (range_with_len a n) ≡ filter_map g (range_with_len a n)
filter_map_same f g a zero h = refl
filter_map_same f g a (suc n) h =
    ap (λ o. cons_option o (filter_map f (range_with_len (a + 1) n))) (h a (omega arith) (omega arith))
    ∙ ap (cons_option (g a)) (filter_map_same f g (a
    + 1) n (λ i l u. h i (omega arith) (omega arith)))

-- a piece of a row of pieces lies in the row
pub piece_within : (e i n : ℕ) → i < n → e * i + e ≤ e * n
piece_within e i n h = let l : i + 1 ≤ n = omega arith in omega (arith, mul-le-mul_left e l)

-- bytes that both files contain are the same
pub same_bytes : (file new : List ℕ) (from to p n : ℕ) → Keeps file new from to → from ≤ p
    → p + n ≤ to
    → to ≤ length file → bytes_at file p n ≡ bytes_at new p n
unfolding Keeps
same_bytes file new from to p n f l u b =
    let s : List ℕ = bytes_at file p n in
    sym (is_exact new p n s (f p n s l u (exact file p n s (omega arith) refl))).1

-- the entries stay the same
entries_kept : (kind : FileKind) (file new : List ℕ) (first count : ℕ)
    → Keeps file new first (first + entry_len kind * count)
    → first + entry_len kind * count ≤ length file
    → entries_from kind LittleEndian file first count
    ≡ entries_from kind LittleEndian new first count
unfolding entries_from
entries_kept kind file new first count f b =
    let e : ℕ = entry_len kind in
    filter_map_same (λ i. entry_of kind LittleEndian (bytes_at file (first + e * i) e))
    (λ i. entry_of kind LittleEndian (bytes_at new (first + e * i) e)) 0 count
    (λ i l u.
    let h : i < count = omega arith in
    let w : e * i + e ≤ e * count = piece_within e i count h in
    ap (entry_of kind LittleEndian)
    (same_bytes file new first (first + e * count) (first + e * i) e f (omega arith) (omega arith) b))

-- ---- directories

-- the offset of a link, where 0 is none
linked : Option ℕ → ℕ
linked None = 0
linked (Some offset) = offset

-- a link made of a number has that number as its offset
linked_link : (a : ℕ) → linked (link a) ≡ a
unfolding linked
linked_link a = elim (cases_eq a 0) as (λ _. linked (link a) ≡ a) [
  | inl s ↦ rw (eq-eqb a 0 s) (sym s)
  | inr d ↦ rw (ne_eqb a 0 d) refl
]

-- equal links have equal offsets
link_inj : (a b : ℕ) → link a ≡ link b → a ≡ b
link_inj a b e = sym (linked_link a) ∙ ap linked e ∙ linked_link b

-- the directory that is read once its count is known
counted : FileKind → List ℕ → ℕ → ℕ → Result DirectoryRecord TiffError
counted kind file p count =
    number_at LittleEndian (offset_width kind) file (link_offset kind p count)
    >>= λ next. Ok (record {
      entries = last_of_each (entries_from kind LittleEndian file (first_entry kind p) count);
      next = link next;
    })

-- the parts of a directory that a file contains
pub directory_parts : (kind : FileKind) (file : List ℕ) (p n : ℕ) (fields : FinMap nat_cmp Field) (t : ℕ)
    → number_at LittleEndian (count_width kind) file p ≡ Ok n
    → directory_at kind LittleEndian file p ≡ Ok (record { entries = fields; next = link t })
    → (last_of_each (entries_from kind LittleEndian file (first_entry kind p) n) ≡ fields)
    × (number_at LittleEndian (offset_width kind) file (link_offset kind p n) ≡ Ok t)
unfolding directory_at counted
directory_parts kind file p n fields t c e =
    let found : DirectoryRecord = record { entries = fields; next = link t } in
    let made : ℕ → DirectoryRecord =
    λ next. record {
      entries = last_of_each (entries_from kind LittleEndian file (first_entry kind p) n);
      next = link next;
    } in
    let F : ℕ → Result DirectoryRecord TiffError = λ next. Ok (made next) in
    let g : counted kind file p n ≡ Ok found = sym (ap (λ r. r >>= counted kind file p) c) ∙ e in
    let i =
    bind_ok (number_at LittleEndian (offset_width kind) file (link_offset kind p n)) F found g in
    let same : made i.0 ≡ found = ok_inj (made i.0) found i.1.1 in
    let x : i.0 ≡ t = link_inj i.0 t (ap (λ (d : DirectoryRecord). d.next) same) in
    (ap (λ (d : DirectoryRecord). d.entries) same, i.1.0 ∙ ap (λ y. Ok y) x)

-- a directory that its parts define
pub directory_from : (kind : FileKind) (file : List ℕ) (p n : ℕ) (fields : FinMap nat_cmp Field) (t : ℕ)
    → number_at LittleEndian (count_width kind) file p ≡ Ok n
    → last_of_each (entries_from kind LittleEndian file (first_entry kind p) n) ≡ fields
    → number_at LittleEndian (offset_width kind) file (link_offset kind p n) ≡ Ok t
    → directory_at kind LittleEndian file p ≡ Ok (record { entries = fields; next = link t })
unfolding directory_at counted
directory_from kind file p n fields t c e l =
    let F : ℕ → Result DirectoryRecord TiffError =
    λ next. Ok (record {
      entries = last_of_each (entries_from kind LittleEndian file (first_entry kind p) n);
      next = link next;
    }) in
    ap (λ r. r >>= counted kind file p) c
    ∙ ap (λ r. r >>= F) l
    ∙ ap (λ (m : FinMap nat_cmp Field). let d : DirectoryRecord =
    record { entries = m; next = link t } in
    let r : Result DirectoryRecord TiffError = Ok d in r) e

-- a directory whose bytes stay the same keeps its entries
pub body_kept : (kind : FileKind) (file new : List ℕ) (p n : ℕ) (fields : FinMap nat_cmp Field)
    → Keeps file new p (p + (count_len kind + entry_len kind * n))
    → p + (count_len kind + entry_len kind * n) ≤ length file
    → last_of_each (entries_from kind LittleEndian file (first_entry kind p) n) ≡ fields
    → last_of_each (entries_from kind LittleEndian new (first_entry kind p) n) ≡ fields
unfolding Keeps
body_kept kind file new p n fields f b e =
    let first : ℕ = first_entry kind p in
    let g : Keeps file new first (first + entry_len kind * n) =
    λ a k s l u. f a k s (omega arith) (omega arith) in
    ap last_of_each (sym (entries_kept kind file new first n g (omega arith))) ∙ e

-- ---- written fields

-- a value that two tests choose stays, if it is not the last or the last stays
tests_kept : {A : Type 0} (a b : Bool) (x y new : Result A TiffError) (e : TiffError) (z : A)
    → cond a (cond b x y) (Err e) ≡ Ok z
    → (b ≡ true) ⊎ (y ≡ Ok z → new ≡ Ok z) → cond a (cond b x new) (Err e) ≡ Ok z
tests_kept true true x y new e z h k = h
tests_kept true false x y new e z h k =
    elim k as (λ _. new ≡ Ok z) [ inl t ↦ absurd (false≢true t) | inr f ↦ f h ]
tests_kept false b x y new e z h k = absurd cc

-- the bytes of a field stay the same, in its entry or at its offset
supplied_kept : (kind : FileKind) (file new : List ℕ) (f : Field) (b : List ℕ)
    → field_bytes kind LittleEndian file f ≡ Ok b
    → (field_len f ≤ offset_len kind)
    ⊎ (exactly_at file (field_offset kind LittleEndian f) (field_len f) ≡ Ok b
    → exactly_at new (field_offset kind LittleEndian f) (field_len f) ≡ Ok b)
    → field_bytes kind LittleEndian new f ≡ Ok b
unfolding field_bytes
supplied_kept kind file new f b e c =
    let n : ℕ = field_len f in
    let p : ℕ = field_offset kind LittleEndian f in
    tests_kept _ (leb n (offset_len kind)) (Ok (take n f.value)) (exactly_at file p n)
    (exactly_at new p n) LimitsExceeded b e
    (elim c as (λ _. (leb n (offset_len kind) ≡ true)
    ⊎ (exactly_at file p n ≡ Ok b → exactly_at new p n ≡ Ok b)) [ inl l ↦ inl (le-leb _ _ l) | inr g ↦ inr g ])

-- ---- appending

-- the entries of a directory in the file, and the number in its own link
pub own_parts : (kind : FileKind) (m : Model) (file : List ℕ) (d : FinishedDirectory)
    → In d m.directories
    → FileContains kind file m
    → (last_of_each (entries_from kind LittleEndian file (first_entry kind d.offset) (len d.fields))
    ≡ d.fields)
    × (number_at LittleEndian (offset_width kind) file (own_link kind d)
    ≡ Ok (m.links (own_link kind d)))
own_parts kind m file d i h =
    directory_parts kind file d.offset (len d.fields) d.fields (m.links (own_link kind d)) (h.counts d i)
    (h.directories d i)

-- a finished directory and its link lie in the file
pub directory_within : (kind : FileKind) (m : Model) (file : List ℕ) (d : FinishedDirectory)
    → In d m.directories
    → FileContains kind file m
    → d.offset + body_len kind d + offset_len kind ≤ length file
directory_within kind m file d i h =
    let w = (h.apart (own_link kind d) (inr (d, (i, refl)))).within in omega (arith, w)

-- what a file contains is in each longer file
pub kept_by_appending : KeptByAppending
unfolding Keeps
kept_by_appending kind m file more h =
    let new : List ℕ = file ++ more in
    record {
      header = exact_append file more _ _ _ h.header;
      first = number_kept file new (offset_width kind) _ _ (exact_append file more _ _) h.first;
      directories = λ d i.
          let o = own_parts kind m file d i h in
          let w = directory_within kind m file d i h in
          directory_from kind new d.offset (len d.fields) d.fields _
          (number_kept file new (count_width kind) _ _ (exact_append file more _ _) (h.counts d i))
          (body_kept kind file new d.offset (len d.fields) d.fields (λ p n s _ _. exact_append file more p n s)
          (omega (arith, w)) o.0)
          (number_kept file new (offset_width kind) _ _ (exact_append file more _ _) o.1);
      counts =
          λ d i. number_kept file new (count_width kind) _ _ (exact_append file more _ _) (h.counts d i);
      supplied = λ y i. supplied_kept kind file new y.field y.bytes (h.supplied y i)
          (inr (exact_append file more _ _ y.bytes));
      regions = λ r i. exact_append file more _ _ _ (h.regions r i);
      within = λ r i. let w = h.within r i in omega (arith, w, length-append file more);
      disjoint = h.disjoint;
      directories_within =
          λ d i. let w = h.directories_within d i in omega (arith, w, length-append file more);
      directories_apart = h.directories_apart;
      regions_apart = h.regions_apart;
      apart = λ q l.
          let a = h.apart q l in
          let w = a.within in
          record {
            header = a.header;
            within = omega (arith, w, length-append file more);
            directories = a.directories;
            supplied = a.supplied;
            regions = a.regions;
            links = a.links;
          };
    }

-- ---- patching

-- bytes are written over a link field at q, which then contains t
module _ (kind : FileKind) (file : List ℕ) (q : ℕ) (over : List ℕ) (t : ℕ)
    (room : q + offset_len kind ≤ length file)
    (short : length over ≤ offset_len kind)
    (here : number_at LittleEndian (offset_width kind) (put file q over) q ≡ Ok t) where
  -- the patched file
  patched : List ℕ
  patched = put file q over

  -- bytes apart from the link field stay readable
  clear_kept : (p n : ℕ) (s : List ℕ) → IsClear kind q p n → exactly_at file p n ≡ Ok s
      → exactly_at patched p n ≡ Ok s
  unfolding patched
  clear_kept p n s c e =
      elim c as (λ _. exactly_at patched p n ≡ Ok s) [
        | inl b ↦ exact_put_before file q over p n s (omega arith) b e
        | inr b ↦ exact_put_behind file q over p n s (omega arith) (omega (arith, b)) e
      ]

  -- each link is readable: the patched one contains t, each other its earlier number
  link_kept : (p x : ℕ) → (p ≡ q) ⊎ IsClear kind q p (offset_len kind)
      → number_at LittleEndian (offset_width kind) file p ≡ Ok x
      → number_at LittleEndian (offset_width kind) patched p ≡ Ok (cond (eqb p q) t x)
  unfolding patched
  link_kept p x c e = elim (cases_eq p q) [
    | inl s ↦ rw (eq-eqb p q s) (ap (λ n. number_at LittleEndian (offset_width kind) patched n) s
        ∙ here)
    | inr d ↦ rw (ne_eqb p q d) (elim c [
      | inl s ↦ absurd (d s)
      | inr a ↦ number_kept file patched (offset_width kind) p x (λ z. clear_kept p (offset_len kind) z a) e
    ])
  ]

  -- bytes apart from the link field stay the same
  body_keeps : (p n : ℕ) → IsClear kind q p n → Keeps file patched p (p + n)
  unfolding Keeps
  body_keeps p n c a k s l u e =
      clear_kept a k s (elim c [ inl b ↦ inl (omega arith) | inr b ↦ inr (omega arith) ]) e

  -- a prefix of bytes that are apart from the link field is apart from it
  front_clear : (p n k : ℕ) → k ≤ n → IsClear kind q p n → IsClear kind q p k
  front_clear p n k l c = elim c [ inl b ↦ inl (omega arith) | inr b ↦ inr b ]

  -- the model with the changed link describes the patched file
  relinked_stands : (m : Model) → IsApart kind file m q → FileContains kind file m
      → FileContains kind patched (with_link kind m q t)
  unfolding patched
  relinked_stands m a h = record {
    header =
        clear_kept 0 (header_link kind) (header_mark kind) (inl (let g = a.header in
        omega (arith, g))) h.header;
    first =
        link_kept (header_link kind) (m.links (header_link kind)) (a.links (header_link kind) (inl refl)) h.first;
    directories = λ d i.
        let o = own_parts kind m file d i h in
        let w = directory_within kind m file d i h in
        let c = a.directories d i in
        directory_from kind patched d.offset (len d.fields) d.fields _
        (number_kept file patched (count_width kind) _ _
        (λ z. clear_kept _ _ z (front_clear d.offset (body_len kind d) (count_len kind) (omega arith) c))
        (h.counts d i))
        (body_kept kind file patched d.offset (len d.fields) d.fields (body_keeps d.offset (body_len kind d) c)
        (omega (arith, w)) o.0)
        (link_kept (own_link kind d) (m.links (own_link kind d)) (a.links (own_link kind d) (inr (d, (i, refl)))) o.1);
    counts = λ d i. number_kept file patched (count_width kind) _ _
        (λ z. clear_kept _ _ z
        (front_clear d.offset (body_len kind d) (count_len kind) (omega arith) (a.directories d i)))
        (h.counts d i);
    supplied = λ y i. supplied_kept kind file patched y.field y.bytes (h.supplied y i)
        (elim (a.supplied y i) [
          | inl x ↦ inl x
          | inr c ↦
              inr (clear_kept (field_offset kind LittleEndian y.field) (field_len y.field) y.bytes c)
        ]);
    regions = λ r i. clear_kept r.offset (length r.bytes) r.bytes (a.regions r i) (h.regions r i);
    within = λ r i. let w = h.within r i in omega (arith, w, length_put file q over (omega arith));
    disjoint = h.disjoint;
    directories_within = λ d i.
        let w = h.directories_within d i in
        omega (arith, w, length_put file q over (omega arith));
    directories_apart = h.directories_apart;
    regions_apart = h.regions_apart;
    apart = λ p i.
        let z = h.apart p i in
        let w = z.within in
        record {
          header = z.header;
          within = omega (arith, w, length_put file q over (omega arith));
          directories = z.directories;
          supplied = z.supplied;
          regions = z.regions;
          links = z.links;
        };
  }

-- after a link is patched, the model with that link changed describes the file
pub kept_by_patching : KeptByPatching
unfolding patched
kept_by_patching kind m file q t l b h =
    let k : ℕ = offset_len kind in
    let w : length (le k t) ≡ k = length-le 0 k t in
    let a = h.apart q l in
    let room = a.within in
    let over : List ℕ = le k t in
    let e : exactly_at (put file q over) q k ≡ Ok over =
    ap (λ n. exactly_at (put file q over) q n) (sym w)
    ∙ exact_put_here file q over (omega (arith, w, room)) in
    let F : List ℕ → Result ℕ TiffError = λ s. Ok (number LittleEndian (offset_width kind) s) in
    relinked_stands kind file q over t room (omega (arith, w))
    (ok_bind (exactly_at (put file q over) q k) F over t e
    (ap (λ x. Ok x) (number-le (offset_width kind) t (is_offset_width kind) b))) m a h

-- after a sink failure while a link is patched, the model with that link changed describes the file
pub kept_by_tearing : KeptByTearing
unfolding patched
kept_by_tearing kind m file q over l s h =
    let k : ℕ = offset_len kind in
    let a = h.apart q l in
    let room = a.within in
    let new : List ℕ = put file q over in
    let z : List ℕ = take k (drop q new) in
    let r = length_put file q over (omega (arith, room)) in
    let e : exactly_at new q k ≡ Ok z = exact new q k z (omega (arith, r, room)) refl in
    let F : List ℕ → Result ℕ TiffError = λ x. Ok (number LittleEndian (offset_width kind) x) in
    let t : ℕ = number LittleEndian (offset_width kind) z in
    (t, relinked_stands kind file q over t room s (ok_bind (exactly_at new q k) F z t e refl) m a h)
