-- Directories extended by fields.
use Rattle.std.proofs.Common.{◌≡◌, ℕ, List, [], ◌∷◌, ◌++◌, map, reverse, refl, ap, sym, ◌∙◌}
use Rattle.std.proofs.lemmas.List.{reverse-append}
use Rattle.std.proofs.lemmas.List.Sums.{fold_push}
use Rattle.std.specs.FinMap.{FinMap, empty, from_entries, insert}
use Rattle.std.specs.List.{fold}
use Rattle.std.specs.Ordering.{nat_cmp}
use Rattle.tiff_base.specs.declared.tags.Tag.{Tag}
use Rattle.tiff_base.specs.Directory.{with_entries, last_of_each, LastOfEachStand}
use Rattle.tiff_base.specs.Field.{Field, DirectoryRecord}
use Rattle.tiff_base.specs.Tags.{tag_number}

-- to set one more field is to extend the directory by one more field
pub one_more : (old now new : DirectoryRecord) (seen : List (Tag × Field)) (item : Tag × Field)
    → now ≡ with_entries old seen
    → new ≡ record now { entries = insert now.entries (tag_number item.0) item.1 }
    → new ≡ with_entries old (seen ++ item ∷ [])
one_more old now new seen item is step =
    step
    ∙ ap {A = DirectoryRecord} {B = DirectoryRecord} (λ d. record d { entries = insert d.entries (tag_number item.0) item.1 }) is
    ∙ ap {B = DirectoryRecord} (λ m. record old { entries = m }) (sym (fold_push (λ m x. insert m (tag_number x.0) x.1) old.entries seen item))

-- entries inserted into a map, the last first
abbrev onto : FinMap nat_cmp Field → List (ℕ × Field) → FinMap nat_cmp Field
onto m [] = m
onto m (e ∷ es) = insert (onto m es) e.0 e.1

onto_last : (m : FinMap nat_cmp Field) (es : List (ℕ × Field)) (e : ℕ × Field)
    → onto m (es ++ e ∷ []) ≡ onto (insert m e.0 e.1) es
onto_last m [] e = refl
onto_last m (x ∷ es) e = ap (λ n. insert n x.0 x.1) (onto_last m es e)

onto_empty : (es : List (ℕ × Field)) → onto empty es ≡ from_entries es
onto_empty [] = refl
onto_empty (e ∷ es) = ap (λ n. insert n e.0 e.1) (onto_empty es)

in_turn : (m : FinMap nat_cmp Field) (items : List (Tag × Field))
    → fold (λ n item. insert n (tag_number item.0) item.1) m items
    ≡ onto m (reverse (map (λ item. (tag_number item.0, item.1)) items))
in_turn m [] = refl
in_turn m (x ∷ items) =
    let e : ℕ × Field = (tag_number x.0, x.1) in
    let es : List (ℕ × Field) = map (λ item. (tag_number item.0, item.1)) items in
    in_turn (insert m e.0 e.1) items ∙ sym (onto_last m (reverse es) e)
    ∙ ap (onto m) (sym (reverse-append (e ∷ []) es))

pub last_of_each_stand : LastOfEachStand
unfolding last_of_each
last_of_each_stand items =
    in_turn empty items ∙ onto_empty (reverse (map (λ item. (tag_number item.0, item.1)) items))
