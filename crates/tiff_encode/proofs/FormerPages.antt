-- The directories and pages of a file that an encoder goes on behind are read as before.
use Rattle.std.proofs.Common.{◌≡◌, ℕ, ◌+◌, ◌*◌, ◌^◌, ◌≤◌, ◌⊎◌, List, [], length, take, Bool, true, false, cond, not, Option, None, Some, Result, Ok, Err, refl, ap, sym, ◌∙◌, inl, inr, subst, arith, length-append, leb}
use Rattle.std.specs.Prelude.{◌==◌, if◌then◌else◌, nat_le, nat_lt}
use Rattle.std.proofs.lemmas.Bool.{le-leb}
use Rattle.std.specs.Int.{byte_len}
use Rattle.std.specs.FinMap.{FinMap, get}
use Rattle.std.specs.Ordering.{nat_cmp}
use Rattle.tiff_base.specs.declared.error.TiffError.{TiffError}
use Rattle.tiff_base.specs.declared.error.TiffError.TheVariants.{LimitsExceeded}
use Rattle.tiff_base.specs.declared.tags.FileKind.{FileKind}
use Rattle.tiff_base.specs.declared.tags.Tag.{Tag}
use Rattle.tiff_base.specs.declared.tags.ByteOrder.TheVariants.{LittleEndian}
use Rattle.tiff_base.specs.Answers.{◌>>=◌}
use Rattle.tiff_base.specs.Field.{Field, DirectoryRecord}
use Rattle.tiff_base.specs.FieldBytes.{field_len, field_offset, field_bytes}
use Rattle.tiff_base.specs.Tags.{tag_number}
use Rattle.tiff_base.specs.Directory.{count_width, offset_width, entry_len, entries_from, last_of_each, first_entry, link, link_offset, directory_at}
use Rattle.tiff_base.specs.Number.{number, number_at}
use Rattle.tiff_base.specs.SourceAndSink.{bytes_at, exactly_at, put}
use Rattle.tiff_ifd.specs.declared.limits.Limits.{Limits}
use Rattle.tiff_ifd.specs.PlainValue.{PlainValue, plain_value_list_of}
use Rattle.tiff_ifd.specs.PlainValue as f
use Rattle.tiff_ifd.specs.FieldValue.{field_value, placed_value, is_allowed, value_from}
use Rattle.tiff_ifd.specs.TagLookup.{if_found, look_in}
use Rattle.tiff_page.specs.Page.{PageRecord}
use Rattle.tiff_page.specs.Checks.{page_of}
use Rattle.tiff_encode.specs.Appending.{Continues}
use Rattle.tiff_value.specs.FileBytes.{offset_len, count_len}
use Rattle.tiff_value.specs.Model.{IsClear}
use Rattle.tiff_encode.specs.Shows.{page_at}
use Rattle.tiff_encode.specs.FormerPages.{AreValuesClear, DirectoryStays, FormerPagesStay}
use Rattle.tiff_base.specs.lemmas.Slices.{ok_bind, ok_inj, exact, length_put, number_kept}
use Rattle.tiff_value.specs.lemmas.File.Kept.{Keeps, keeps, body_kept, directory_from}
use Rattle.tiff_encode.specs.lemmas.GoingOn.{some_offset, number_within, bytes_stay}
use Rattle.tiff_encode.specs.lemmas.LongerChain.{directory_split}

-- ---- values

-- a choice between a value and another that stays
either : {A : Type 0} (b : Bool) (x y z : A) → (b ≡ true) ⊎ (y ≡ z) → cond b x y ≡ cond b x z
either true x y z h = refl
either false x y z h = elim h as (λ _. y ≡ z) [ inl t ↦ absurd cc | inr e ↦ e ]

-- the bytes of a field stay, in its entry or at its offset
field_stays : (kind : FileKind) (file new : List ℕ) (f : Field)
    → (field_len f ≤ offset_len kind)
    ⊎ (exactly_at new (field_offset kind LittleEndian f) (field_len f)
    ≡ exactly_at file (field_offset kind LittleEndian f) (field_len f))
    → field_bytes kind LittleEndian new f ≡ field_bytes kind LittleEndian file f
unfolding field_bytes
field_stays kind file new f h =
    let n : ℕ = field_len f in
    let p : ℕ = field_offset kind LittleEndian f in
    let inner =
    either (leb n (offset_len kind)) (Ok (take n f.value)) (exactly_at new p n) (exactly_at file p n)
    (elim h as (λ _. (leb n (offset_len kind) ≡ true)
    ⊎ (exactly_at new p n ≡ exactly_at file p n)) [ inl l ↦ inl (le-leb _ _ l) | inr e ↦ inr e ]) in
    ap (λ (r : Result (List ℕ) TiffError). if nat_lt n (2 ^ 64) then
    r else Err LimitsExceeded) inner

-- the value of a field whose bytes stay
value_stays : (kind : FileKind) (file new : List ℕ) (limits : Limits) (e : Field)
    → field_bytes kind LittleEndian new e ≡ field_bytes kind LittleEndian file e
    → field_value kind LittleEndian new limits e ≡ field_value kind LittleEndian file limits e
unfolding field_value
value_stays kind file new limits e h =
    let placed : placed_value kind LittleEndian new limits e
    ≡ placed_value kind LittleEndian file limits e =
    ap (λ (r : Result (List ℕ) TiffError). if is_allowed limits e.field_type e.count then
    (r >>= λ found. value_from false e.field_type LittleEndian e.count found) else Err LimitsExceeded) h in
    ap (λ (r : Result PlainValue TiffError). if e.count == 0 then
    Ok (f.list (plain_value_list_of [])) else if not (nat_lt (field_len e) (2 ^ 64)) then
    Err LimitsExceeded
    else if nat_le (field_len e) (byte_len (offset_width kind)) then value_from true e.field_type LittleEndian e.count (take (field_len e) e.value) else r) placed

-- values that are found alike
found_same : (v w : Field → Result PlainValue TiffError) (o : Option Field)
    → ((f : Field) → o ≡ Some f → v f ≡ w f) → if_found v o ≡ if_found w o
found_same v w None h = refl
found_same v w (Some f) h = ap (λ r. r >>= λ y. Ok (Some y)) (h f refl)

look_stays : (kind : FileKind) (file new : List ℕ) (limits : Limits) (fields : FinMap nat_cmp Field)
    → ((t : ℕ) (f : Field) → get fields t ≡ Some f
    → field_value kind LittleEndian new limits f ≡ field_value kind LittleEndian file limits f)
    → look_in kind LittleEndian new limits fields ≡ look_in kind LittleEndian file limits fields
unfolding look_in
look_stays kind file new limits fields h =
    let each : (tag : Tag) → if_found (field_value kind LittleEndian new limits)
    (get fields (tag_number tag))
    ≡ if_found (field_value kind LittleEndian file limits) (get fields (tag_number tag)) =
    λ tag. found_same (field_value kind LittleEndian new limits) (field_value kind LittleEndian file limits) (get fields (tag_number tag)) (h (tag_number tag)) in
    λ i. record { has = (look_in kind LittleEndian file limits fields).has; value = λ tag. each tag i }

-- ---- a directory

module _ (kind : FileKind) (q : ℕ) (file new : List ℕ) (room : q + offset_len kind ≤ length file)
    (on : Continues kind q file new) where
  -- bytes apart from the link are read alike
  stay : (p n : ℕ) (s : List ℕ) → IsClear kind q p n → exactly_at file p n ≡ Ok s
      → exactly_at new p n ≡ Ok s
  stay = bytes_stay kind q file new room on

  -- a number is at the link
  some_number : (x : ℕ) × (number_at LittleEndian (offset_width kind) new q ≡ Ok x)
  some_number =
      let k : ℕ = offset_len kind in
      let s : List ℕ = bytes_at new q k in
      let size = length_put file q on.over (omega (arith, on.whole, room)) in
      let long : length new ≡ length (put file q on.over) + length on.more =
      ap length on.bytes ∙ length-append (put file q on.over) on.more in
      let e : exactly_at new q k ≡ Ok s = exact new q k s (omega (arith, room, size, long)) refl in
      let F : List ℕ → Result ℕ TiffError = λ s. Ok (number LittleEndian (offset_width kind) s) in
      (number LittleEndian (offset_width kind) s, ok_bind (exactly_at new q k) F s (number LittleEndian (offset_width kind) s) e refl)

  -- a directory apart from the link, with whatever its own link holds
  directory_with : (offset count target : ℕ) (directory : DirectoryRecord)
      → directory_at kind LittleEndian file offset ≡ Ok directory
      → number_at LittleEndian (count_width kind) file offset ≡ Ok count
      → IsClear kind q offset (count_len kind + entry_len kind * count)
      → number_at LittleEndian (offset_width kind) new (link_offset kind offset count) ≡ Ok target
      → directory_at kind LittleEndian new offset ≡ Ok (record directory { next = link target })
  directory_with offset count target directory d c clear l =
      let parts = directory_split kind file offset directory d in
      let same : parts.0 ≡ count = ok_inj parts.0 count (sym parts.2.0 ∙ c) in
      let Entries : ℕ → Type 0 =
      λ n. last_of_each (entries_from kind LittleEndian file (first_entry kind offset) n)
      ≡ directory.entries in
      let entries : Entries count =
      subst Entries same (ap (λ (r : DirectoryRecord). r.entries) (sym parts.2.1.1)) in
      let Link : ℕ → Type 0 =
      λ n. number_at LittleEndian (offset_width kind) file (link_offset kind offset n)
      ≡ Ok parts.1 in
      let within =
      number_within file (offset_width kind) (link_offset kind offset count) parts.1
      (some_offset kind) (subst Link same parts.2.1.0) in
      let front : IsClear kind q offset (count_len kind) =
      elim clear [ inl b ↦ inl (omega (arith, b)) | inr b ↦ inr b ] in
      let counted =
      number_kept file new (count_width kind) offset count (λ s. stay offset (count_len kind) s front) c in
      let kept : Keeps file new offset (offset + (count_len kind + entry_len kind * count)) =
      keeps file new offset (offset + (count_len kind
      + entry_len kind * count)) (λ p n s f u. stay p n s (elim clear [ inl b ↦ inl (omega (arith, b, f, u)) | inr b ↦ inr (omega (arith, b, f, u)) ])) in
      directory_from kind new offset count directory.entries target counted
      (body_kept kind file new offset count directory.entries kept (omega (arith, within)) entries) l

  -- the page of a directory with the same fields
  page_with : (offset : ℕ) (next : Option ℕ) (directory : DirectoryRecord)
      → directory_at kind LittleEndian file offset ≡ Ok directory
      → directory_at kind LittleEndian new offset ≡ Ok (record directory { next = next })
      → AreValuesClear kind file q directory.entries → (limits : Limits)
      → page_at kind new offset limits ≡ page_at kind file offset limits
  page_with offset next directory old now clear limits =
      let F : List ℕ → DirectoryRecord → Result PageRecord TiffError =
      λ bytes d. page_of (look_in kind LittleEndian bytes limits d.entries) in
      let read : (f : Field) (t : ℕ) → get directory.entries t ≡ Some f
      → field_value kind LittleEndian new limits f
      ≡ field_value kind LittleEndian file limits f = λ f t g.
      let n : ℕ = field_len f in
      let p : ℕ = field_offset kind LittleEndian f in
      value_stays kind file new limits f (field_stays kind file new f (elim (clear t f g) as (λ _. (n ≤ offset_len kind) ⊎ (exactly_at new p n ≡ exactly_at file p n)) [
        | inl l ↦ inl l
        | inr w ↦
            (let s : List ℕ = bytes_at file p n in
            let here : exactly_at file p n ≡ Ok s = exact file p n s (omega (arith, w.0)) refl in
            inr (stay p n s w.1 here ∙ sym here))
      ])) in
      let look = look_stays kind file new limits directory.entries (λ t f g. read f t g) in
      ap (λ r. r >>= F new) now ∙ ap page_of look ∙ sym (ap (λ r. r >>= F file) old)

  -- a directory is read as before
  directory_stays : (offset count : ℕ) (directory : DirectoryRecord)
      → directory_at kind LittleEndian file offset ≡ Ok directory
      → number_at LittleEndian (count_width kind) file offset ≡ Ok count
      → IsClear kind q offset (count_len kind + entry_len kind * count)
      → DirectoryStays kind q file new offset count directory
  directory_stays offset count directory d c clear =
      let own : ℕ = link_offset kind offset count in
      let parts = directory_split kind file offset directory d in
      let same : parts.0 ≡ count = ok_inj parts.0 count (sym parts.2.0 ∙ c) in
      let Link : ℕ → Type 0 =
      λ n. number_at LittleEndian (offset_width kind) file (link_offset kind offset n)
      ≡ Ok parts.1 in
      let was : number_at LittleEndian (offset_width kind) file own ≡ Ok parts.1 =
      subst Link same parts.2.1.0 in
      let next : link parts.1 ≡ directory.next =
      ap (λ (r : DirectoryRecord). r.next) (sym parts.2.1.1) in
      let apart : IsClear kind q own (offset_len kind)
      → directory_at kind LittleEndian new offset ≡ Ok directory = λ a.
      directory_with offset count parts.1 directory d c clear (number_kept file new (offset_width kind) own parts.1 (λ s. stay own (offset_len kind) s a) was)
      ∙ ap (λ (n : Option ℕ). let r : Result DirectoryRecord TiffError =
      Ok (record directory { next = n }) in r) next in
      let Number : ℕ → ℕ → Type 0 =
      λ target y. number_at LittleEndian (offset_width kind) new y ≡ Ok target in
      let linked : own ≡ q → (target : ℕ)
      → number_at LittleEndian (offset_width kind) new q ≡ Ok target
      → directory_at kind LittleEndian new offset
      ≡ Ok (record directory { next = link target }) =
      λ s target l. directory_with offset count target directory d c clear
      (subst (Number target) (sym s) l) in
      record {
        clear = apart;
        own = linked;
        page =
            λ h v limits. elim h as (λ _. page_at kind new offset limits
            ≡ page_at kind file offset limits) [
              | inl s ↦ page_with offset (link some_number.0) directory d (linked s some_number.0 some_number.1) v limits
              | inr a ↦ page_with offset directory.next directory d (apart a) v limits
            ];
      }

pub former_pages_stay : FormerPagesStay
former_pages_stay kind q file new room on = record {
  bytes = bytes_stay kind q file new room on;
  directories = directory_stays kind q file new room on;
}
