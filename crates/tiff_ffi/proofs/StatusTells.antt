-- A status is the number of a result.
use Rattle.std.proofs.Common.{◌≡◌, ◌⊎◌, ℕ, Result, Ok, Err, IfOk, OnErr, inl, inr, refl, subst, sym, ap}
use Rattle.tiff_base.specs.declared.error.TiffError.{TiffError}
use Rattle.tiff_base.specs.declared.error.TiffError.TheVariants.{IoError, OutOfMemory}
use Rattle.tiff_base.specs.declared.io.IoKind.TheVariants.{Device}
use Rattle.tiff_base.specs.Answers.{AnswersWithoutSource}
use Rattle.tiff_ffi.specs.Status.{fault_number, status, StatusPuts, StatusTells}

wanting : {Y : Type 0} → (given : Result Y TiffError) → (n : ℕ) → (left : Y)
    → n ≡ fault_number OutOfMemory → StatusTells given n left
wanting (Ok y) n left e = inr e
wanting (Err f) n left e = inr e

fault : {Y : Type 0} → (given : Result Y TiffError) → (n : ℕ) → (left : Y) → (f : TiffError)
    → given ≡ Err f → n ≡ fault_number f → StatusTells given n left
fault given n left f h e = subst (λ g. StatusTells g n left) (sym h) (inl e)

refused : {X Y : Type 0} → (view : X → Y) → (f : TiffError) → (given : Result Y TiffError) → (n : ℕ)
    → (left : Y) → AnswersWithoutSource view (Err f) given
    → n ≡ fault_number f → StatusTells given n left
refused view OutOfMemory given n left h e = wanting given n left e
refused view (IoError Device) given n left h e = absurd (h.device refl)
refused view f given n left h e = fault given n left f (h.other refl) e

-- What a call leaves in a variable of the caller's.
pub tells_left : {X Y : Type 0} → (view : X → Y) → (answer : Result X TiffError)
    → (given : Result Y TiffError) → (n : ℕ) → (left : Y)
    → AnswersWithoutSource view answer given → n ≡ status answer → IfOk answer (λ x. left ≡ view x)
    → StatusTells given n left
tells_left view (Ok x) given n left h e l = subst (λ g. StatusTells g n left) (sym h) (inl (e, l))
tells_left view (Err f) given n left h e l = refused view f given n left h e

-- What a call leaves in a variable and a slice of the caller's.
pub tells_both : {X Z : Type 0} → (answer : Result X TiffError) → (given : Result (X × Z) TiffError)
    → (n : ℕ) → (left : X) → (slice : Z)
    → AnswersWithoutSource (λ x. (x, slice)) answer given → n ≡ status answer
    → IfOk answer (λ x. left ≡ x) → StatusTells given n (left, slice)
tells_both (Ok x) given n left slice h e l =
    subst (λ g. StatusTells g n (left, slice)) (sym h) (inl (e, ap (λ y. (y, slice)) l))
tells_both (Err f) given n left slice h e l = refused (λ x. (x, slice)) f given n (left, slice) h e

-- ---- a variable of the caller's, which keeps what it held where the call is refused

none : {Y : Type 0} → (given : Result Y TiffError) → (n : ℕ) → (old new : Y)
    → n ≡ fault_number OutOfMemory → new ≡ old → StatusPuts given n old new
none (Ok y) n old new e k = inr (e, k)
none (Err f) n old new e k = (inr e, k)

named : {Y : Type 0} → (given : Result Y TiffError) → (n : ℕ) → (old new : Y) → (f : TiffError)
    → given ≡ Err f → n ≡ fault_number f → new ≡ old
    → StatusPuts given n old new
named given n old new f h e k = subst (λ g. StatusPuts g n old new) (sym h) (inl e, k)

unput : {X Y : Type 0} → (view : X → Y) → (f : TiffError) → (given : Result Y TiffError) → (n : ℕ)
    → (old new : Y) → AnswersWithoutSource view (Err f) given
    → n ≡ fault_number f → new ≡ old → StatusPuts given n old new
unput view OutOfMemory given n old new h e k = none given n old new e k
unput view (IoError Device) given n old new h e k = absurd (h.device refl)
unput view f given n old new h e k = named given n old new f (h.other refl) e k

-- What a call puts into a variable of the caller's.
pub puts_told : {X Y : Type 0} → (view : X → Y) → (answer : Result X TiffError)
    → (given : Result Y TiffError) → (n : ℕ) → (old new : Y)
    → AnswersWithoutSource view answer given → n ≡ status answer → IfOk answer (λ x. new ≡ view x)
    → OnErr answer (new ≡ old) → StatusPuts given n old new
puts_told view (Ok x) given n old new h e l k =
    subst (λ g. StatusPuts g n old new) (sym h) (inl (e, l))
puts_told view (Err f) given n old new h e l k = unput view f given n old new h e k

-- What a call puts into a variable and a slice of the caller's.
pub puts_both : {X Z : Type 0} → (answer : Result X TiffError) → (given : Result (X × Z) TiffError)
    → (n : ℕ) → (old new : X) → (before slice : Z)
    → AnswersWithoutSource (λ x. (x, slice)) answer given → n ≡ status answer
    → IfOk answer (λ x. new ≡ x) → OnErr answer (new ≡ old)
    → OnErr answer (slice ≡ before) → StatusPuts given n (old, before) (new, slice)
puts_both (Ok x) given n old new before slice h e l k s =
    subst (λ g. StatusPuts g n (old, before) (new, slice)) (sym h) (inl (e, ap (λ y. (y, slice)) l))
puts_both (Err f) given n old new before slice h e l k s =
    unput (λ x. (x, slice)) f given n (old, before) (new, slice) h e (λ i. (k i, s i))

-- What a call leaves in a variable beside a slice.
pub kept_told : {X : Type 0} → (answer : Result X TiffError) → (n : ℕ) → (old new : X)
    → n ≡ status answer → OnErr answer (new ≡ old)
    → (n ≡ 0) ⊎ (new ≡ old)
kept_told (Ok x) n old new e k = inl e
kept_told (Err f) n old new e k = inr k
