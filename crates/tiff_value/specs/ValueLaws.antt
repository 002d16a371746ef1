-- Lemmas for the laws of values.
use Rattle.std.specs.Prelude.{◌≡◌, ℕ, ◌+◌, ◌*◌, Bool, true, false, cond, List, [], ◌∷◌, ◌++◌, length, map, Result, Ok, Err}
use Rattle.std.specs.List.{flat_map, list_all}
use Rattle.std.proofs.Common.{refl, ap, sym, ◌∙◌, subst, arith, length-append}
use Rattle.std.proofs.lemmas.List.{length-map}
use Rattle.std.proofs.lemmas.List.Folds.{flat_map-map}
use Rattle.tiff_base.specs.declared.error.TiffError.{TiffError}
use Rattle.tiff_base.specs.declared.error.TiffError.TheVariants.{FormatError}
use Rattle.tiff_base.specs.declared.error.TiffFormatError.TheVariants.{InvalidTag}
use Rattle.tiff_base.specs.declared.tags.«Type».{«Type»}
use Rattle.tiff_base.specs.declared.tags.«Type».TheVariants.{ASCII}
use Rattle.tiff_base.specs.Types.{type_size}
use Rattle.tiff_value.specs.Data.{FieldData, Scalars, data_by, data_of, is_letter, text_data, IsWhole}
use Rattle.tiff_value.specs.Values.{values_in, IsValue}

-- values that each have `size` bytes have `size` times their number of bytes in all
pub each_whole : {A : Type 0} (size : ℕ) (f : A → List ℕ) → ((x : A) → length (f x) ≡ size)
    → (xs : List A)
    → length (flat_map f xs) ≡ length xs * size
each_whole size f whole [] = omega arith
each_whole size f whole (x ∷ xs) = length-append (f x) (flat_map f xs)
    ∙ omega (arith, whole x, each_whole size f whole xs)

module _ {A : Type 0} (type : «Type») (f : A → List ℕ) (values : List A
    → Scalars) (listed : (xs : List A) → data_of (values xs) ≡ data_by type f xs) where
  -- each value has the number of bytes of its type, because one value alone has
  one_whole : (x : A) (count : ℕ) (given : Result FieldData TiffError)
      → IsValue type count given → given ≡ Ok (data_of (values (x ∷ [])))
      → length (f x) ≡ type_size type
  one_whole x count given is alone =
      let v : IsValue type count (Ok (data_of (values (x ∷ [])))) = subst (λ (g : Result FieldData TiffError). IsValue type count g) alone is in
      let w : IsWhole (data_by type f (x ∷ [])) = subst IsWhole (listed (x ∷ [])) v.2 in
      omega (arith, w, length-append (f x) [])

  -- several values of one type, each of which is a value alone
  pub several : (count_of : A → ℕ) (given : A → Result FieldData TiffError)
      → ((x : A) → IsValue type (count_of x) (given x))
      → ((x : A) → given x ≡ Ok (data_of (values (x ∷ []))))
      → (xs : List A) → IsValue type (length xs) (Ok (data_of (values xs)))
  several count_of given sized alone xs =
      let whole : (x : A) → length (f x) ≡ type_size type = λ x. one_whole x (count_of x) (given x) (sized x) (alone x) in
      let v : IsValue type (length xs) (Ok (data_by type f xs)) = (refl, refl, each_whole (type_size type) f whole xs) in
      subst (λ (d : FieldData). IsValue type (length xs) (Ok d)) (sym (listed xs)) v

-- values that are converted to numbers are written as these numbers
pub mapped_values : {A B : Type 0} (type : «Type») (number_of : A → B) (f : B
    → List ℕ) (xs : List A)
    → data_by type f (map number_of xs) ≡ data_by type (λ x. f (number_of x)) xs
mapped_values type number_of f xs =
    ap (λ (n : ℕ). values_in type n (flat_map f (map number_of xs))) (length-map xs number_of)
    ∙ ap (λ (bs : List ℕ). values_in type (length xs) bs) (flat_map-map f number_of xs)

text_by : (b : Bool) (text : List ℕ)
    → IsValue ASCII (length text + 1)
    (cond b (Ok (values_in ASCII (length text + 1) (text ++ (0 ∷ []))))
    (Err (FormatError InvalidTag)))
text_by true text = (refl, refl, length-append text (0 ∷ []) ∙ omega arith)
text_by false text = refl

-- a text has one byte more than its length, or it is refused
pub text_value : (text : List ℕ) → IsValue ASCII (length text + 1) (text_data text)
unfolding text_data
text_value text = text_by (list_all is_letter text) text
