-- The look-up of a tag finds the values that the tag has.
use Rattle.std.proofs.Common.{zero, suc, ◌≡◌, ℕ, ◌^◌, ◌<◌, List, [], ◌∷◌, length, map, true, false, Option, Some, None, Result, Ok, refl, ap, sym, ◌∙◌, inl, inr, subst, arith, lit<}
use Rattle.std.proofs.lemmas.List.{length-map}
use Rattle.std.proofs.lemmas.List.Folds.{flat_map-map}
use Rattle.std.specs.Prelude.{is_some}
use Rattle.std.specs.FinMap.{FinMap, get}
use Rattle.std.specs.Option.{option_map}
use Rattle.std.specs.Ordering.{nat_cmp}
use Rattle.tiff_base.specs.declared.error.TiffError.{TiffError}
use Rattle.tiff_base.specs.declared.tags.ByteOrder.TheVariants.{LittleEndian}
use Rattle.tiff_base.specs.declared.tags.FileKind.{FileKind}
use Rattle.tiff_base.specs.declared.tags.FileKind.TheVariants.{Classic, Big}
use Rattle.tiff_base.specs.declared.tags.Tag.{Tag}
use Rattle.tiff_base.specs.declared.tags.«Type».{«Type»}
use Rattle.tiff_base.specs.declared.tags.«Type».TheVariants.{SHORT, LONG, LONG8}
use Rattle.tiff_base.specs.Field.{Field}
use Rattle.tiff_base.specs.Number.{le}
use Rattle.tiff_base.specs.Tags.{tag_number}
use Rattle.tiff_base.specs.Types.{type_size}
use Rattle.tiff_value.specs.Data.{Scalars, u32s, u64s, data_by, data_of}
use Rattle.tiff_ifd.specs.PlainValue.{PlainValue, PlainValueList, short, unsigned, unsigned_big}
use Rattle.tiff_ifd.specs.PlainValue as f
use Rattle.tiff_ifd.specs.FieldValue.{field_value}
use Rattle.tiff_ifd.specs.Into.{into_u16, into_u32, into_u64, into_u64_vec, each_item}
use Rattle.tiff_ifd.specs.Limits.{unlimited}
use Rattle.tiff_ifd.specs.TagLookup.{TagLookup, if_found, look_up_in, find}
use Rattle.tiff_page.specs.Checks.{is_page_tag}
use Rattle.tiff_value.specs.FileBytes.{offset_len}
use Rattle.tiff_value.specs.Fields.{offset_values}
use Rattle.tiff_value.specs.Model.{In, Model, FileContains}
use Rattle.tiff_value.specs.WriteOps.{standing_field, standing_fields}
use Rattle.tiff_encode.specs.Held.{Given, HasValues, HoldsAt, HoldsValues}
use Rattle.tiff_encode.proofs.PageTold.Values.{get_standing, standing_bytes, AllBelow, joint, AreNumbers, value_read, are_shorts, are_longs, are_long8s}

-- ---- what a directory holds for a tag

-- a tag with values has a field
held : (m : Model) (found : Option Field) (given : Option Scalars) (values : Scalars)
    → given ≡ Some values
    → HoldsAt m found given → (e : Field) × ((found ≡ Some e) × HasValues m e values)
held m (Some e) (Some v) values g h =
    let s : v ≡ values = cc g in
    (e, (refl, subst (λ x. HasValues m e x) s h))
held m (Some e) None values g h = absurd h
held m None (Some v) values g h = absurd h
held m None None values g h = absurd cc

-- a tag without values has no field
not_held : (m : Model) (found : Option Field) (given : Option Scalars) → given ≡ None
    → HoldsAt m found given
    → found ≡ None
not_held m found (Some v) g h = absurd cc
not_held m (Some e) None g h = absurd h
not_held m None None g h = refl

-- a field in its entry has its type and its count
standing_parts : (kind : FileKind) (e : Field)
    → ((standing_field kind e).field_type ≡ e.field_type)
    × ((standing_field kind e).count ≡ e.count)
standing_parts Classic e = (refl, refl)
standing_parts Big e = (refl, refl)

-- the look-up of a value finds the value of the field
value_found : (value : Field → Result PlainValue TiffError) (found : Option Field) (e : Field)
    (d : PlainValue)
    → found ≡ Some e → value e ≡ Ok d → if_found value found ≡ Ok (Some d)
value_found value found e d a b = rw (a, b) refl

-- ---- what is found by a conversion

-- the look-up finds one number
pub one_found : (into : PlainValue → Result ℕ TiffError) (l : TagLookup) (t : Tag) (d : PlainValue)
    (n : ℕ) → l.value t ≡ Ok (Some d)
    → into d ≡ Ok n → find into l t ≡ Ok (Some n)
unfolding find
one_found into l t d n a b = rw (a, b) refl

-- the look-up finds several numbers
pub some_found : (into : PlainValue → Result (List ℕ) TiffError) (l : TagLookup) (t : Tag)
    (d : PlainValue) (ns : List ℕ)
    → l.value t ≡ Ok (Some d) → into d ≡ Ok ns → find into l t ≡ Ok (Some ns)
unfolding find
some_found into l t d ns a b = rw (a, b) refl

-- the look-up finds nothing
pub none_found : {A : Type 0} (into : PlainValue → Result A TiffError) (l : TagLookup) (t : Tag)
    → l.value t ≡ Ok None
    → find into l t ≡ Ok None
unfolding find
none_found into l t a = rw a refl

-- the conversion of each number returns the number
each_back : (into : PlainValue → Result ℕ TiffError) (one : ℕ → PlainValue)
    → ((n : ℕ) → into (one n) ≡ Ok n) → (ns : List ℕ)
    → each_item into (f.plain_value_list_of (map one ns)) ≡ Ok ns
each_back into one b [] = refl
each_back into one b (n ∷ ns) = rw (b n, each_back into one b ns) refl

-- the conversion of one number or of several returns a list
pub list_back : (into : PlainValue → Result ℕ TiffError) (all : PlainValue → Result (List ℕ) TiffError) (one : ℕ → PlainValue)
    → ((n : ℕ) → into (one n) ≡ Ok n) → ((n : ℕ) → all (one n) ≡ Ok (n ∷ []))
    → ((ds : PlainValueList) → all (f.list ds) ≡ each_item into ds) → (ns : List ℕ)
    → all (joint (map one ns)) ≡ Ok ns
list_back into all one a b c [] = c f.none
list_back into all one a b c (n ∷ []) = b n
list_back into all one a b c (n ∷ m ∷ ns) =
    c (f.plain_value_list_of (map one (n ∷ m ∷ ns))) ∙ each_back into one a (n ∷ m ∷ ns)

-- ---- lists of numbers

-- a list with one number below a limit
one_below : (n limit : ℕ) → n < limit → AllBelow limit (n ∷ [])
one_below n limit h zero = h
one_below n limit h (suc i) = omega (arith, h)

-- the numbers of a list's elements are below a limit if each one is
pub each_below : {A : Type 0} (g : A → ℕ) (limit : ℕ) (xs : List A) → 0 < limit
    → ((x : A) → In x xs → g x < limit)
    → AllBelow limit (map g xs)
each_below g limit [] p h i = p
each_below g limit (x ∷ xs) p h zero = h x (inl refl)
each_below g limit (x ∷ xs) p h (suc i) = each_below g limit xs p (λ y j. h y (inr j)) i

-- enums of tags are written as numbers
pub as_numbers : {A : Type 0} (g : A → ℕ) (xs : List A)
    → data_by SHORT (λ x. le 2 (g x)) xs ≡ data_by SHORT (le 2) (map g xs)
as_numbers g xs =
    let c = sym (length-map xs g) in
    let b = sym (flat_map-map (le 2) g xs) in
    λ i. record { field_type = SHORT; count = c i; bytes = b i }

-- the values are a list of numbers of one type
abbrev pub AreBy : Scalars → «Type» → List ℕ → Type 0
AreBy values type ns = data_of values ≡ data_by type (le (type_size type)) ns

module _ (kind : FileKind) (file : List ℕ) (m : Model) (fields : FinMap nat_cmp Field) (given : Given)
    (s : FileContains kind file m) (h : HoldsValues m fields given) where
  -- the look-up in the fields as the entries contain them
  abbrev pub the_look : TagLookup
  the_look = look_up_in (field_value kind LittleEndian file unlimited) (standing_fields kind fields)

  -- the look-up finds the numbers of a tag
  pub numbers_found : (t : Tag) (values : Scalars) (type : «Type») (limit : ℕ)
      (one : ℕ → PlainValue) (ns : List ℕ)
      → AreNumbers type limit one → is_page_tag (tag_number t) ≡ true
      → given (tag_number t) ≡ Some values
      → AreBy values type ns → AllBelow limit ns → length ns < 2 ^ 32
      → (the_look.value t ≡ Ok (Some (joint (map one ns)))) × (the_look.has t ≡ true)
  numbers_found t values type limit one ns a p g d b few =
      let q : ℕ = tag_number t in
      let x = held m (get fields q) (given q) values g (h q p) in
      let e : Field = x.0 in
      let v : HasValues m e values = x.1.1 in
      let parts = standing_parts kind e in
      let stood : get (standing_fields kind fields) q ≡ Some (standing_field kind e) =
      get_standing kind fields q ∙ ap (option_map (standing_field kind)) x.1.0 in
      let read : field_value kind LittleEndian file unlimited (standing_field kind e)
      ≡ Ok (joint (map one ns)) =
      value_read kind file (standing_field kind e) type limit one ns a b few
      (parts.0 ∙ v.field_type ∙ ap (λ y. y.field_type) d) (parts.1 ∙ v.count ∙ ap (λ y. y.count) d)
      (standing_bytes kind file e v.whole
      ∙ s.supplied (record { field = e; bytes = (data_of values).bytes }) v.supplied ∙ ap (λ y. Ok y.bytes) d) in (
        value_found (field_value kind LittleEndian file unlimited) (get (standing_fields kind fields) q) (standing_field kind e)
            (joint (map one ns)) stood read,
        ap is_some stood,
      )

  -- the look-up finds nothing for a tag without values
  pub nothing_found : (t : Tag) → is_page_tag (tag_number t) ≡ true → given (tag_number t) ≡ None
      → (the_look.value t ≡ Ok None) × (the_look.has t ≡ false)
  nothing_found t p g =
      let q : ℕ = tag_number t in
      let stood : get (standing_fields kind fields) q ≡ None =
      get_standing kind fields q
      ∙ ap (option_map (standing_field kind)) (not_held m (get fields q) (given q) g (h q p)) in
      (ap (if_found (field_value kind LittleEndian file unlimited)) stood, ap is_some stood)

  -- the look-up finds one SHORT
  pub short_found : (t : Tag) (values : Scalars) (n : ℕ) → is_page_tag (tag_number t) ≡ true
      → given (tag_number t) ≡ Some values → AreBy values SHORT (n ∷ []) → n < 2 ^ 16
      → find into_u16 the_look t ≡ Ok (Some n)
  short_found t values n p g d b =
      one_found into_u16 the_look t (short n) n
      (numbers_found t values SHORT (2 ^ 16) short (n
      ∷ []) are_shorts p g d (one_below n (2 ^ 16) b) (lit< tt)).0 refl

  -- the look-up finds one LONG
  pub long_found : (t : Tag) (n : ℕ) → is_page_tag (tag_number t) ≡ true
      → given (tag_number t) ≡ Some (u32s (n ∷ [])) → n < 2 ^ 32
      → find into_u32 the_look t ≡ Ok (Some n)
  unfolding data_of
  long_found t n p g b =
      one_found into_u32 the_look t (unsigned n) n
      (numbers_found t (u32s (n ∷ [])) LONG (2 ^ 32) unsigned (n
      ∷ []) are_longs p g refl (one_below n (2 ^ 32) b) (lit< tt)).0
      refl

  -- the look-up finds several SHORTs
  pub shorts_found : (t : Tag) (values : Scalars) (ns : List ℕ) → is_page_tag (tag_number t) ≡ true
      → given (tag_number t) ≡ Some values → AreBy values SHORT ns → AllBelow (2 ^ 16) ns
      → length ns < 2 ^ 32
      → find into_u64_vec the_look t ≡ Ok (Some ns)
  shorts_found t values ns p g d b few =
      some_found into_u64_vec the_look t (joint (map short ns)) ns
      (numbers_found t values SHORT (2 ^ 16) short ns are_shorts p g d b few).0
      (list_back into_u64 into_u64_vec short (λ n. refl) (λ n. refl) (λ ds. refl) ns)

-- the look-up finds offsets, or numbers of bytes, in a file of a kind
pub offsets_found : (kind : FileKind) (file : List ℕ) (m : Model) (fields : FinMap nat_cmp Field)
    (given : Given)
    (s : FileContains kind file m) (h : HoldsValues m fields given) (t : Tag) (ns : List ℕ)
    → is_page_tag (tag_number t) ≡ true → given (tag_number t) ≡ Some (offset_values kind ns)
    → AllBelow (256 ^ offset_len kind) ns → length ns < 2 ^ 32
    → (find into_u64_vec (the_look kind file m fields given s h) t ≡ Ok (Some ns))
    × ((the_look kind file m fields given s h).has t ≡ true)
unfolding data_of
offsets_found Classic file m fields given s h t ns p g b few =
    let x =
    numbers_found Classic file m fields given s h t (u32s ns) LONG
    (2 ^ 32) unsigned ns are_longs p g refl b few in (
      some_found into_u64_vec (the_look Classic file m fields given s h) t (joint (map unsigned ns)) ns x.0
          (list_back into_u64 into_u64_vec unsigned (λ n. refl) (λ n. refl) (λ ds. refl) ns),
      x.1,
    )
offsets_found Big file m fields given s h t ns p g b few =
    let x =
    numbers_found Big file m fields given s h t (u64s ns) LONG8 (2 ^ 64) unsigned_big ns are_long8s p g refl b few in (
      some_found into_u64_vec (the_look Big file m fields given s h) t (joint (map unsigned_big ns)) ns x.0
          (list_back into_u64 into_u64_vec unsigned_big (λ n. refl) (λ n. refl) (λ ds. refl) ns),
      x.1,
    )
