-- The values of the tags that describe a page, before and after a change of values.
use Rattle.std.proofs.Common.{◌≡◌, ℕ, Bool, true, false, List, [], ◌∷◌, Option, None, refl, ◌∙◌, subst}
use Rattle.std.proofs.lemmas.Bool.{eqb-true, and_parts}
use Rattle.std.specs.Prelude.{◌==◌, ◌||◌}
use Rattle.std.specs.List.{list_any, list_all}
use Rattle.tiff_base.specs.declared.color.ChunkType.{ChunkType}
use Rattle.tiff_base.specs.declared.color.ChunkType.TheVariants.{Strip, Tile}
use Rattle.tiff_base.specs.declared.tags.Tag.{Tag}
use Rattle.tiff_base.specs.declared.tags.Tag.TheVariants as tag
use Rattle.tiff_base.specs.Tags.{tag_number}
use Rattle.tiff_value.specs.Data.{Scalars}
use Rattle.tiff_page.specs.Checks.{tags_of_pixels, tags_of_chunks}
use Rattle.tiff_encode.specs.Held.{Given, value_in, values_of, AreGiven, EachGiven, places_in}

-- ---- the value of one tag

either_same : (b : Bool) (m n : ℕ) (rest : Bool) (f g : Given) → (m == n) ≡ b → f m ≡ g m
    → (rest ≡ true → f n ≡ g n)
    → (b || rest) ≡ true → f n ≡ g n
either_same true m n rest f g q same more h = subst (λ k. f k ≡ g k) (eqb-true m n q) same
either_same false m n rest f g q same more h = more h

-- lists with the same values have the same first value and the same others
parts_same : {A : Type 0} (x y : A) (xs ys : List A) → x ∷ xs ≡ y ∷ ys → (x ≡ y) × (xs ≡ ys)
parts_same x y xs ys e = (cc, cc)

-- the number is that of a tag of a list
abbrev pub is_one_of : List Tag → ℕ → Bool
is_one_of ts n = list_any (λ t. tag_number t == n) ts

-- values that are the same at each tag of a list are the same at a tag that is in the list
pub same_at : (f g : Given) (n : ℕ) (ts : List Tag) → values_of ts f ≡ values_of ts g
    → is_one_of ts n ≡ true → f n ≡ g n
same_at f g n [] e h = absurd cc
same_at f g n (t ∷ ts) e h =
    let rest : Bool = is_one_of ts n in
    let same =
    parts_same (f (tag_number t)) (g (tag_number t)) (values_of ts f) (values_of ts g) e in
    either_same (tag_number t == n) (tag_number t) n rest f g refl same.0 (λ q. same_at f g n ts same.1 q) h

pub given_at : (rows : List (Tag × Option Scalars)) (given : Given) (n : ℕ) → AreGiven rows given
    → is_one_of tags_of_pixels n ≡ true → given n ≡ value_in rows n
given_at rows given n e h = same_at given (value_in rows) n tags_of_pixels e h

-- ---- a change of values

-- The value of a tag after a change depends on its value before the change alone.
abbrev pub IsLocal : (Given → Given) → Type 0
IsLocal change = (f g : Given) (n : ℕ) → f n ≡ g n → change f n ≡ change g n

changed_same : (change : Given → Given) → IsLocal change → (f g : Given) (ts : List Tag)
    → values_of ts f ≡ values_of ts g
    → values_of ts (change f) ≡ values_of ts (change g)
changed_same change l f g [] e = refl
changed_same change l f g (t ∷ ts) e =
    let same =
    parts_same (f (tag_number t)) (g (tag_number t)) (values_of ts f) (values_of ts g) e in
    let first = l f g (tag_number t) same.0 in
    let rest = changed_same change l f g ts same.1 in
    λ i. first i ∷ rest i

-- The tags have the values of a list after a change, if the change makes them of those that they
-- had.
pub given_changed : (change : Given → Given) → IsLocal change
    → (rows later : List (Tag × Option Scalars)) (given : Given) → AreGiven rows given
    → AreGiven later (change (value_in rows)) → AreGiven later (change given)
given_changed change l rows later given e s =
    changed_same change l given (value_in rows) tags_of_pixels e ∙ s

-- ---- the tags of chunks

-- each tag of a list keeps its value, if the tags of chunks do
each_kept : (rows : List (Tag × Option Scalars)) (given later : Given)
    → values_of tags_of_chunks later ≡ values_of tags_of_chunks given
    → list_all (λ row. is_one_of tags_of_chunks (tag_number row.0)) rows ≡ true
    → EachGiven rows given → EachGiven rows later
each_kept [] given later e q t = tt
each_kept (row ∷ rows) given later e q t =
    let both =
    and_parts (is_one_of tags_of_chunks (tag_number row.0)) (list_all (λ r. is_one_of tags_of_chunks (tag_number r.0)) rows) q in
    (same_at later given (tag_number row.0) tags_of_chunks e both.0 ∙ t.0, each_kept rows given later e both.1 t.1)

-- the tags of the chunks keep their values
pub places_kept : (c : ChunkType) (width height : ℕ) (given later : Given)
    → values_of tags_of_chunks later ≡ values_of tags_of_chunks given
    → EachGiven (places_in c width height None None) given
    → EachGiven (places_in c width height None None) later
places_kept Strip width height given later e t =
    each_kept (places_in Strip width height None None) given later e refl t
places_kept Tile width height given later e t =
    each_kept (places_in Tile width height None None) given later e refl t

-- the image has no offsets and byte counts yet
pub unplaced : (c : ChunkType) (width height : ℕ) (given : Given)
    → EachGiven (places_in c width height None None) given
    → EachGiven ((tag.StripOffsets, None) ∷ (tag.StripByteCounts, None) ∷ (tag.TileOffsets, None)
    ∷ (tag.TileByteCounts, None) ∷ []) given
unplaced Strip width height given t = t.1
unplaced Tile width height given t = (t.1.1.1.1.0, (t.1.1.1.1.1.0, (t.1.1.0, (t.1.1.1.0, tt))))
