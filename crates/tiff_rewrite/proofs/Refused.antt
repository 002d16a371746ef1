-- The error of a call that is returned.
use Rattle.std.proofs.Common.{◌≡◌, Result, Ok, Err, subst, sym}
use Rattle.std.specs.Result.{IsErrAnd}
use Rattle.tiff_base.specs.declared.error.TiffError.{TiffError}
use Rattle.tiff_base.specs.Answers.{AnswersBut, IsCause}

-- A result that is an error with a cause answers what the cause is of.
pub err_answers : {X Y : Type 0} {wanting failed : Type 0} (view : X → Y) (given : Result Y TiffError)
    (result : Result X TiffError) (e : TiffError) → IsErrAnd result (λ d. d ≡ e)
    → IsCause wanting failed e (given ≡ Err e) → AnswersBut wanting failed view result given
err_answers view given (Ok x) e is cause = absurd is
err_answers {wanting = wanting} {failed = failed} view given (Err d) e is cause =
    subst (λ f. IsCause wanting failed f (given ≡ Err f)) (sym is) cause
