-- The result of a write of the bytes of a value.
use Rattle.std.proofs.Common.{◌≡◌, ℕ, ◌+◌, ◌<◌, List, [], ◌∷◌, ◌++◌, length, take, get_or, append-nil, MatchResult, Result, Ok, Err, Option, Some, None, is_some, true, false, inl, inr, refl, sym, ap, ◌∙◌, subst}
use Rattle.std.proofs.lemmas.List.{take_more, flat_map_more}
use Rattle.std.specs.List.{flat_map}
use Rattle.tiff_base.specs.declared.error.TiffError.{TiffError}
use Rattle.tiff_base.specs.declared.error.TiffError.TheVariants.{UsageError, OutOfMemory}
use Rattle.tiff_base.specs.declared.error.UsageError.TheVariants.{WriterFailed}
use Rattle.tiff_base.specs.declared.tags.«Type».{«Type»}
use Rattle.tiff_value.specs.Data.{FieldData, data_by}
use Rattle.tiff_value.specs.Written.{Written, WritesCounted}
use Rattle.tiff_value.specs.Values.{values_in, IsValue, IsWritable, Pushes, WritesValue}

-- an option that has no value is `None`
pub nothing : {A : Type 0} (o : Option A) → is_some o ≡ false → o ≡ None
nothing None h = refl
nothing (Some x) h = absurd (cc)

module _ {A : Type 0} where
  bytes_written : (d : FieldData) (old new : Written) (r : Result A TiffError)
      → WritesCounted d.bytes old new r → WritesValue (Ok d) old new r
  bytes_written d old new (Ok x) h = h
  bytes_written d old new (Err e) h =
      elim h as (λ _. WritesValue {A = A} (Ok d) old new (Err e)) [ inl s ↦ inl s | inr c ↦ inr (inr c) ]

  -- the bytes of a value are written as the writer says
  pub value_written : (given : Result FieldData TiffError) (type : «Type») (count : ℕ) (xs : List ℕ)
      (old new : Written) (r : Result A TiffError)
      → given ≡ Ok (values_in type count xs) → WritesCounted xs old new r
      → WritesValue given old new r
  value_written given type count xs old new r is h =
      subst (λ (g : Result FieldData TiffError). WritesValue g old new r) (sym is)
      (bytes_written (values_in type count xs) old new r h)

-- an earlier write failed
pub value_stopped : (A : Type 0) (given : Result FieldData TiffError) (w : Written)
    → is_some w.fault ≡ true → WritesValue {A = A} given w w (Err (UsageError WriterFailed))
value_stopped A (Ok d) w h = inl (record { answer = refl; failed = h; same = refl })
value_stopped A (Err e) w h = inl (record { answer = refl; failed = h; same = refl })

-- there is no memory for a value that can be written
pub value_wanting : (A : Type 0) (given : Result FieldData TiffError) (w : Written)
    → is_some w.fault ≡ false → IsWritable given → WritesValue {A = A} given w w (Err OutOfMemory)
value_wanting A (Ok d) w h can =
    inr (inl (record { fresh = nothing w.fault h; answer = refl; same = refl }))
value_wanting A (Err e) w h can = absurd can

-- a field can't have the value
pub value_refused : (A : Type 0) (given : Result FieldData TiffError) (e : TiffError) (w : Written)
    → is_some w.fault ≡ false → given ≡ Err e → WritesValue {A = A} given w w (Err e)
value_refused A given e w h is =
    subst (λ (g : Result FieldData TiffError). WritesValue {A = A} g w w (Err e)) (sym is)
    (inr (record { fresh = nothing w.fault h; answer = refl; same = refl }))

-- ---- appended bytes

-- the bytes appended to an empty list are the bytes of the value
pub value_made : (type : «Type») (count : ℕ) (given : Result FieldData TiffError) (bytes : List ℕ)
    → IsValue type count given
    → Pushes {A = Unit {0}} given [] bytes (Ok tt) → given ≡ Ok (values_in type count bytes)
value_made type count (Ok d) bytes is pushed =
    λ i. Ok (record { field_type = is.0 i; count = is.1 i; bytes = sym pushed i })
value_made type count (Err e) bytes is pushed = absurd pushed

-- one value after others
pub scalar_pushed : {X A : Type 0} (type : «Type») (spelled : X → List ℕ) (x : X)
    (given : Result FieldData TiffError) (one : FieldData)
    (old new : List ℕ) (r : Result A TiffError) → given ≡ Ok one
    → one ≡ data_by type spelled (x ∷ []) → Pushes given old new r
    → MatchResult r (λ _. new ≡ old ++ spelled x) (λ e. e ≡ OutOfMemory)
scalar_pushed {A = A} type spelled x given one old new (Ok u) is by pushed =
    subst (λ g. Pushes {A = A} g old new (Ok u)) is pushed
    ∙ ap (λ (d : FieldData). old ++ d.bytes) by
    ∙ ap (λ (xs : List ℕ). old ++ xs) (append-nil (spelled x))
scalar_pushed {A = A} type spelled x given one old new (Err e) is by pushed =
    subst (λ g. Pushes {A = A} g old new (Err e)) is pushed

-- several values are appended as one list
pub several_pushed : {X A : Type 0} (type : «Type») (spelled : X → List ℕ) (xs : List X)
    (all : FieldData) (old new : List ℕ)
    (r : Result A TiffError) → all ≡ data_by type spelled xs
    → MatchResult r (λ _. new ≡ old ++ flat_map spelled xs) (λ e. e ≡ OutOfMemory)
    → Pushes (Ok all) old new r
several_pushed type spelled xs all old new (Ok u) is pushed =
    pushed ∙ ap (λ (d : FieldData). old ++ d.bytes) (sym is)
several_pushed type spelled xs all old new (Err e) is pushed = pushed

-- one more of several values
pub spelled_more : {X : Type 0} (f : X → List ℕ) (xs : List X) (i : ℕ) (x : X)
    (start mid new : List ℕ) → i < length xs → get_or xs i x ≡ x
    → mid ≡ start ++ flat_map f (take i xs) → new ≡ mid ++ f x
    → new ≡ start ++ flat_map f (take (i + 1) xs)
spelled_more {X = X} f xs i x start mid new l at m n =
    n ∙ ap (λ (b : List ℕ). b ++ f x) m ∙ flat_map_more f start (take i xs) x
    ∙ ap (λ (t : List X). start ++ flat_map f t) (sym (take_more xs i x l
    ∙ ap (λ (y : X). take i xs ++ y ∷ []) at))
