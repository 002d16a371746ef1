-- Words of a command line that ask for nothing.
use Rattle.std.proofs.Common.{◌≡◌, ℕ, List, [], ◌∷◌, map, length, refl, inl, Bool, true, false}
use Rattle.std.specs.Prelude.{◌==◌, Err, Ok, OnOk, Option, Result, String, is_ok, string_bytes}
use Rattle.std.specs.declared.alloc.Global.{Global}
use Rattle.tiff_base.specs.declared.error.TiffError.{TiffError}
use Rattle.tiffpage_lib.specs.declared.command.Command.{Command}
use Rattle.tiffpage_lib.specs.Status.{RefusesWords, Runs}
use Rattle.tiffpage_lib.specs.Words.{AskFor}

-- A fact of a result that is no error.
pub on_ok : {T E : Type 0} (r : Result T E) (P : Type 0) → is_ok r ≡ true → OnOk r P → P
on_ok (Ok x) P e h = h
on_ok (Err d) P e h = absurd (cc (e))

-- Words that ask for nothing are refused, and files stay.
pub runs_refused : {O E F : Type 0} (printed : O → Option (List ℕ)) (contents : E → Option (List ℕ))
    (reads : F → List ℕ → Result (List ℕ) TiffError → F → Type 0)
    (writes : F → List ℕ → List ℕ → Result (Unit {0}) TiffError → F → Type 0)
    (appends : F → List ℕ → List ℕ → ℕ → List ℕ → Result (Unit {0}) TiffError → F → Type 0)
    (compares : F → List ℕ → List ℕ → Result Bool TiffError → F → Type 0)
    (measures : F → List ℕ → Result (Option ℕ) TiffError → F → Type 0)
    (reads_part : F → List ℕ → ℕ → ℕ → Result (List ℕ) TiffError → F → Type 0) (seen : List ℕ)
    (words : List (String Global)) (files : F) (out : O) (err new_err : E) (status : ℕ)
    → (length words == 0) ≡ false
    → ((command : Command) → ¬ AskFor (map string_bytes words) command)
    → RefusesWords printed contents out out err new_err status
    → Runs printed contents reads writes appends compares measures reads_part seen
    (map string_bytes words) files files out out err new_err status
runs_refused printed contents reads writes appends compares measures reads_part seen
    [] files out err new_err status some none h = absurd (cc (some))
runs_refused printed contents reads writes appends compares measures reads_part seen (w
    ∷ words) files out err new_err status some none h = inl (refl, none, h)
