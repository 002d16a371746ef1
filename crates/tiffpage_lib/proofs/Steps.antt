-- Steps of a command, one after another.
use Rattle.std.proofs.Common.{◌≡◌, Ok, Err, Result, refl, ap}
use Rattle.std.specs.Result.{IsErrAnd, result_and, result_map_both}
use Rattle.tiff_base.specs.declared.error.TiffError.{TiffError}
use Rattle.tiffpage_lib.specs.declared.failure.Failure.{Failure}
use Rattle.tiffpage_lib.specs.declared.failure.Failure.TheVariants as failure
use Rattle.tiff_pages.specs.declared.lines.Lines.{Lines}
use Rattle.tiffpage_lib.specs.Commands.{Gives}
use Rattle.tiffpage_lib.specs.Files.{Makes, Then}

-- a result that is some error is that error
is_error : {B : Type 0} (e : Failure) (result : Result B Failure) → IsErrAnd result (λ d. d ≡ e)
    → result ≡ Err e
is_error e (Ok x) h = absurd h
is_error e (Err d) h = ap (λ (x : Failure). Err x) h

-- A step fails.
pub stops : {F A B : Type 0} (first : F → Result A Failure → F → Type 0)
    (next : A → F → Result B Failure → F → Type 0) (old new : F) (e : Failure)
    (result : Result B Failure) → first old (Err e) new → IsErrAnd result (λ d. d ≡ e)
    → Then first next old result new
stops first next old new e result h is =
    record { answer = Err e; mid = new; step = h; rest = (is_error e result is, refl) }

-- A step is followed by the next.
pub goes : {F A B : Type 0} (first : F → Result A Failure → F → Type 0)
    (next : A → F → Result B Failure → F → Type 0) (old mid new : F) (x : A)
    (result : Result B Failure) → first old (Ok x) mid → next x mid result new
    → Then first next old result new
goes first next old mid new x result h then =
    record { answer = Ok x; mid = mid; step = h; rest = then }

-- A step that leaves files alone gives an answer, or an error.
pub makes : {F A : Type 0} (given : Result A TiffError → Type 0) (files : F) (x : A) → given (Ok x)
    → Makes given files (Ok x) files
makes given files x h = record { answer = Ok x; may = h; is = refl; files = refl }

pub fails : {F A : Type 0} (given : Result A TiffError → Type 0) (files : F) (e : TiffError)
    → given (Err e) → Makes given files (Err (failure.Tiff e)) files
fails given files e h = record { answer = Err e; may = h; is = refl; files = refl }

pub gives_lines : {F A : Type 0} (given : Result A TiffError → Type 0) (files : F)
    (answer : Result A TiffError) (result : Result A Failure) → given answer
    → result ≡ result_map_both (λ x. x) (λ e. failure.Tiff e) answer → Makes given files result files
gives_lines given files answer result h is =
    record { answer = answer; may = h; is = is; files = refl }

-- The same of a result that is seen by `view`.
pub stops_seen : {F A B C : Type 0} (first : F → Result A Failure → F → Type 0)
    (next : A → F → Result B Failure → F → Type 0) (view : C → B) (old new : F) (e : Failure)
    (result : Result C Failure) → first old (Err e) new → IsErrAnd result (λ d. d ≡ e)
    → Then first next old (result_map_both view (λ d. d) result) new
stops_seen first next view old new e (Ok x) h is = absurd is
stops_seen first next view old new e (Err d) h is = stops first next old new e (Err d) h is

-- A step is followed by lines.
pub gives : {F : Type 0} (first : F → Result (Unit {0}) Failure → F → Type 0) (old new : F)
    (lines : Lines) (done : Result (Unit {0}) Failure) → first old done new
    → Then first (λ d. Gives lines) old (result_and done (Ok lines)) new
gives first old new lines (Ok d) h =
    record { answer = Ok d; mid = new; step = h; rest = (refl, refl) }
gives first old new lines (Err e) h =
    record { answer = Err e; mid = new; step = h; rest = (refl, refl) }

pub refuses : {F A : Type 0} (given : Result A TiffError → Type 0) (files : F) (e : TiffError)
    (result : Result A Failure) → given (Err e)
    → IsErrAnd result (λ d. d ≡ failure.Tiff e) → Makes given files result files
refuses given files e result h is =
    record { answer = Err e; may = h; is = is_error (failure.Tiff e) result is; files = refl }
