-- The items of a directory's tags.
use Rattle.std.proofs.Common.{◌≡◌, ℕ, ◌<◌, List, [], ◌∷◌, Option, None, Some, Result, Err, map, drop, unwrap_or, T, refl, ap, sym, ◌∙◌, subst}
use Rattle.std.proofs.lemmas.Option.{none-some}
use Rattle.std.specs.FinMap.{entries, entries_sorted, is_sorted}
use Rattle.std.specs.List.{slice_get}
use Rattle.std.specs.Ordering.{nat_cmp}
use Rattle.tiff_base.specs.declared.error.TiffError.{TiffError}
use Rattle.tiff_base.specs.declared.tags.Tag.{Tag}
use Rattle.tiff_base.specs.Answers.{IsCause, NoneSwallowed, ◌>>=◌}
use Rattle.tiff_base.specs.Sparing.{IsWithinLimits}
use Rattle.tiff_base.specs.Directory.{fields_after}
use Rattle.tiff_base.specs.Field.{Field, DirectoryRecord}
use Rattle.tiff_base.specs.lemmas.After.{after_first, after_head}
use Rattle.tiff_base.specs.lemmas.Causes.{memory_not_device, other_not_device}
use Rattle.tiff_ifd.specs.PlainValue.{PlainValue}
use Rattle.tiff_ifd.specs.declared.value.Value.{Value}
use Rattle.tiff_decode.specs.Items.{fields_left, item_of, items_left, NextItem}
use Rattle.tiff_decode.specs.Machine.{Decoding}
use Rattle.tiff_decode.specs.Step.{ItemIs}

-- a value with an error makes an item with this error
pub item_refused : (given : Result PlainValue TiffError) (make : PlainValue → Result (Tag × PlainValue) TiffError) (before after : ℕ) (e : TiffError)
    → IsCause (IsWithinLimits given) (before < after) e (given ≡ Err e)
    → NoneSwallowed {X = Value} (Err e) before after
    → ItemIs (given >>= make) (Err e) before after
item_refused given make before after e c l = record {
  memory = λ is. l (memory_not_device e is);
  device = c.device;
  other = λ is. (ap (λ r. r >>= make) (c.other is), l (other_not_device e is));
}

-- the first of the fields that are left, and the fields after it
first_left : (last : Option ℕ) (es : List (ℕ × Field)) (e : ℕ × Field) (rest : List (ℕ × Field))
    → T (is_sorted nat_cmp es)
    → fields_left last es ≡ e ∷ rest → fields_left (Some e.0) es ≡ rest
first_left None es e rest h is =
    subst (λ (fs : List (ℕ × Field)). fields_after e.0 fs
    ≡ rest) (sym is) (after_head rest e (subst (λ (fs : List (ℕ × Field)). T (is_sorted nat_cmp fs)) is h))
first_left (Some n) es e rest h is = after_first n es rest e h is

split_first : (fs : List (ℕ × Field)) (e : ℕ × Field) → Some e ≡ slice_get fs 0 → fs ≡ e ∷ drop 1 fs
split_first [] e is = absurd (none-some e (sym is))
split_first (x ∷ fs) e is =
    let same : e ≡ x =
    ap (λ (o : Option (ℕ × Field)). unwrap_or o x) is in ap (λ (y : ℕ × Field). y ∷ fs) (sym same)

-- the iterator returns one item, and the items after it are left
pub one_given : (d : Decoding) (last : Option ℕ) (own : DirectoryRecord) (e : ℕ × Field)
    (item : Result (Tag × Value) TiffError) (before after : ℕ) → own ≡ d.state.directory
    → Some e ≡ slice_get (fields_left last (entries own.entries)) 0
    → ItemIs (item_of d.kind d.order d.bytes d.state.limits e) item before after
    → NextItem (items_left d last) (Some item) (items_left d (Some e.0)) before after
one_given d last own e item before after same is given =
    let es : List (ℕ × Field) = entries d.state.directory.entries in
    let first : Some e ≡ slice_get (fields_left last es) 0 =
    is ∙ ap (λ (o : DirectoryRecord). slice_get (fields_left last (entries o.entries)) 0) same in
    let all : fields_left last es ≡ e ∷ drop 1 (fields_left last es) =
    split_first (fields_left last es) e first in
    let rest : drop 1 (fields_left last es) ≡ fields_left (Some e.0) es =
    sym (first_left last es e (drop 1 (fields_left last es)) (entries_sorted d.state.directory.entries) all) in (
      item_of d.kind d.order d.bytes d.state.limits e,
      ap (λ (fs : List (ℕ × Field)). map (item_of d.kind d.order d.bytes d.state.limits) fs) (all
          ∙ ap (λ (fs : List (ℕ × Field)). e ∷ fs) rest),
      given,
    )

no_first : (fs : List (ℕ × Field)) → None ≡ slice_get fs 0 → fs ≡ []
no_first [] is = refl
no_first (x ∷ fs) is = absurd (none-some x is)

-- at the end no item is left
pub at_end : (d : Decoding) (last : Option ℕ) (own : DirectoryRecord) → own ≡ d.state.directory
    → None ≡ slice_get (fields_left last (entries own.entries)) 0 → items_left d last ≡ []
at_end d last own same is =
    let es : List (ℕ × Field) = entries d.state.directory.entries in
    let first : None ≡ slice_get (fields_left last es) 0 =
    is ∙ ap (λ (o : DirectoryRecord). slice_get (fields_left last (entries o.entries)) 0) same in
    ap (λ (fs : List (ℕ × Field)). map (item_of d.kind d.order d.bytes d.state.limits) fs)
    (no_first (fields_left last es) first)
