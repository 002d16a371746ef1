-- What calls of files give, one after another, and what a step of a command returns.
use Rattle.std.specs.Prelude.{◌≡◌, ℕ, Bool, true, false, List, Option, None, Some, Result, Ok, Err, if◌then◌else◌, nat_lt}
use Rattle.std.specs.Result.{result_map_both}
use Rattle.tiff_base.specs.declared.error.TiffError.{TiffError}
use Rattle.tiff_base.specs.declared.error.TiffError.TheVariants.{OutOfMemory}
use Rattle.tiffpage_lib.specs.declared.failure.Failure.{Failure}
use Rattle.tiffpage_lib.specs.declared.failure.Failure.TheVariants as failure
use denote.Ref.{Bor}

-- the failure of a file: the one that names it, except where memory is out
abbrev pub failure_of : Failure → TiffError → Failure
failure_of named OutOfMemory = failure.Tiff OutOfMemory
failure_of named e = named

-- The file of the input is refused as an output.
abbrev pub refusal : Bor (List ℕ) → Result Bool TiffError → Result (Unit {0}) Failure
refusal name (Ok false) = Ok tt
refusal name (Ok true) = Err (failure.WriteInput name)
refusal name (Err e) = Err (failure.Tiff e)

-- the next step behind a result; none behind a failure
abbrev pub GoesOn : {F A B : Type 0} → (A → F → Result B Failure → F → Type 0) → Result A Failure
    → F → Result B Failure → F → Type 0
GoesOn next (Ok x) old result new = next x old result new
GoesOn next (Err e) old result new = (result ≡ Err e) × (new ≡ old)

-- One step, and behind it the next one, unless the first fails.
pub record Then {F A B : Type 0} (first : F → Result A Failure → F → Type 0) (next : A → F
    → Result B Failure → F → Type 0) (old : F) (result : Result B Failure) (new : F) : Type 0 where
  pub answer : Result A Failure
  pub mid : F
  pub step : first old answer mid
  pub rest : GoesOn next answer mid result new

-- A step that leaves files alone: its answer is one that may be given.
pub record Makes {F A : Type 0} (given : Result A TiffError → Type 0) (old : F)
    (result : Result A Failure) (new : F) : Type 0 where
  pub answer : Result A TiffError
  pub may : given answer
  pub is : result ≡ result_map_both (λ x. x) (λ e. failure.Tiff e) answer
  pub files : new ≡ old

-- the most bytes of a file that is read whole, where parts of it could be read
abbrev pub most_whole : ℕ
most_whole = 67108864

-- the length of a file that is read by parts; none for one that is read whole
abbrev pub in_parts : Option ℕ → Option ℕ
in_parts None = None
in_parts (Some len) = if nat_lt most_whole len then Some len else None

-- files are those of a type F
module _ {F : Type 0} where
  -- A look at the length of a file, whether it is read by parts; `measures` says what length it may
  -- be told to have, with the files before and behind it.
  abbrev pub Measures : (F → List ℕ → Result (Option ℕ) TiffError → F → Type 0) → Bor (List ℕ) → F
      → Result (Option ℕ) Failure → F → Type 0
  Measures measures name old result new = (answer : Result (Option ℕ) TiffError)
      × measures old name.now answer new
      × (result ≡ result_map_both in_parts (failure_of (failure.Read name)) answer)

  -- A read of a file; `reads` says what it may return, with the files before and behind it.
  abbrev pub Reads : (F → List ℕ → Result (List ℕ) TiffError → F → Type 0) → Bor (List ℕ) → F
      → Result (List ℕ) Failure → F → Type 0
  Reads reads name old result new = (answer : Result (List ℕ) TiffError)
      × reads old name.now answer new
      × (result ≡ result_map_both (λ x. x) (failure_of (failure.Read name)) answer)

  -- A write of a file; `writes` says the same of it.
  abbrev pub Writes : (F → List ℕ → List ℕ → Result (Unit {0}) TiffError → F → Type 0)
      → Bor (List ℕ) → List ℕ → F → Result (Unit {0}) Failure → F → Type 0
  Writes writes name bytes old result new = (answer : Result (Unit {0}) TiffError)
      × writes old name.now bytes answer new
      × (result ≡ result_map_both (λ x. x) (failure_of (failure.Write name)) answer)

  -- An append to a file; `appends` says the same of it.
  abbrev pub Appends : (F → List ℕ → List ℕ → ℕ → List ℕ → Result (Unit {0}) TiffError → F → Type 0)
      → Bor (List ℕ) → List ℕ → ℕ → List ℕ → F → Result (Unit {0}) Failure → F → Type 0
  Appends appends name more at over old result new = (answer : Result (Unit {0}) TiffError)
      × appends old name.now more at over answer new
      × (result ≡ result_map_both (λ x. x) (failure_of (failure.Write name)) answer)

  -- A look whether the output is the file of the input; `compares` says what it may return.
  abbrev pub Compares : (F → List ℕ → List ℕ → Result Bool TiffError → F → Type 0) → Bor (List ℕ)
      → Bor (List ℕ) → F → Result (Unit {0}) Failure → F → Type 0
  Compares compares input output old result new = (answer : Result Bool TiffError)
      × compares old input.now output.now answer new × (result ≡ refusal output answer)
