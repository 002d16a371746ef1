-- Calls on a file of which a caller has windows.
use Rattle.std.proofs.Common.{◌≡◌, ◌∙◌, ◌⊎◌, ℕ, ◌≤◌, List, ◌++◌, length, take, drop, Option, None, Some, IsSome, Result, Ok, Err, IfOk, refl, sym, ap, subst, arith, inr}
use Rattle.std.proofs.lemmas.Bool.{false≢true}
use Rattle.std.proofs.lemmas.List.{length-take-le, take-append-drop}
use Rattle.tiff_base.specs.declared.error.TiffError.{TiffError}
use Rattle.tiff_base.specs.Answers.{AnswersBut}
use Rattle.tiff_base.specs.declared.windows.Stretch.{Stretch}
use Rattle.tiff_base.specs.declared.windows.Windows.{Windows}
use Rattle.tiff_ffi.specs.InWindows.{SeenTells, TellsBy, bytes_wanted, copied}
use Rattle.tiff_base.specs.Windows.{AreWindowsOf, IsWanted, behind_windows, file_of}
use Rattle.tiff_base.specs.lemmas.Causes.{cause_along}
use Rattle.tiff_base.specs.lemmas.Seen.{same_file}

in_order_by : (b : Option ℕ) (seen : Windows) (status : ℕ) (wanted : Stretch) (stays told : Type 0)
    → IsSome b
    → ((status ≡ bytes_wanted) × (IsWanted seen wanted × stays)) ⊎ told
    → TellsBy b seen status wanted stays told
in_order_by None seen status wanted stays told h t = absurd (false≢true h)
in_order_by (Some end) seen status wanted stays told h t = t

-- windows in order
tells_in_order : (seen : Windows) (status : ℕ) (wanted : Stretch) (stays told : Type 0)
    → IsSome (behind_windows seen.len seen.windows.now)
    → ((status ≡ bytes_wanted) × (IsWanted seen wanted × stays)) ⊎ told
    → SeenTells seen status wanted stays told
tells_in_order seen status wanted stays told h t =
    in_order_by (behind_windows seen.len seen.windows.now) seen status wanted stays told h t

-- windows that are in order are those of a file
pub of_order : (seen mine : Windows) → mine ≡ seen
    → ((file : List ℕ) → AreWindowsOf (file_of file seen) seen) → (file : List ℕ)
    → AreWindowsOf (file_of file mine) mine
of_order seen mine e h file =
    (let P : Windows → Type 0 = λ w. AreWindowsOf (file_of file w) w in subst P (sym e) (h file))

-- the file of windows in order is the one that they are of
pub in_order_of : (seen mine : Windows) (file : List ℕ) → mine ≡ seen → AreWindowsOf file seen
    → file_of file mine ≡ file
in_order_of seen mine file e of = ap (λ w. file_of file w) e ∙ same_file file seen of

-- a call that tells what it tells of the file that it picked, tells it of the file that the windows
-- are of
pub tells_of : (seen mine : Windows) (file : List ℕ) (status : ℕ) (wanted : Stretch)
    (stays : Type 0) (told : List ℕ → Type 0)
    → (mine ≡ seen) × IsSome (behind_windows seen.len seen.windows.now) → AreWindowsOf file seen
    → told (file_of file mine) → SeenTells seen status wanted stays (told file)
tells_of seen mine file status wanted stays told o of t =
    tells_in_order seen status wanted stays (told file) o.1 (inr (subst told (in_order_of seen mine file o.0 of) t))

-- ---- tags

-- the bytes that were copied, and what is behind them
part_copied : (n : ℕ) (old new part : List ℕ) → n ≤ length old → length new ≡ length old
    → take n new ≡ part → drop n new ≡ drop n old
    → ◌≡◌ {A = ℕ × List ℕ} (length part, part ++ drop (length part) old) (n, new)
part_copied n old new part fits same front rest =
    let size : length part ≡ n =
    ap (λ xs. length xs) (sym front) ∙ length-take-le n new (omega (arith, fits, same)) in
    let back : drop (length part) old ≡ drop n new = ap (λ k. drop k old) size ∙ sym rest in
    let all : part ++ drop (length part) old ≡ new =
    (λ i. sym front i ++ back i) ∙ take-append-drop n new in
    λ i. (size i, all i)

-- the same, as the result of a call
pub bytes_copied : (wanting failed : Type 0) (told : Result ℕ TiffError)
    (given : Result (List ℕ) TiffError) (old new : List ℕ)
    → AnswersBut wanting failed (λ n. take n new) told given → length new ≡ length old
    → IfOk told (λ n. (n ≤ length old) × (drop n new ≡ drop n old))
    → AnswersBut {Y = ℕ × List ℕ} wanting failed (λ n. (n, new)) told (copied given old)
bytes_copied wanting failed (Ok n) given old new h same rest =
    ap (λ (r : Result (List ℕ) TiffError). copied r old) h
    ∙ ap (λ (p : ℕ × List ℕ). Ok p) (part_copied n old new (take n new) rest.0 same refl rest.1)
bytes_copied wanting failed (Err e) given old new h same rest =
    cause_along e (λ w. w) (λ f. f) (ap (λ (r : Result (List ℕ) TiffError). copied r old)) h
