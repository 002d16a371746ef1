-- Lists that are read item by item, and errors that are passed on.
use Rattle.std.proofs.Common.{◌≡◌, ℕ, ◌<◌, ◌≤◌, ◌+◌, List, length, drop, get_or, ap, sym, ◌∙◌, Option, None, Some, refl, false}
use Rattle.std.specs.Prelude.{◌==◌, Result, Ok, Err}
use Rattle.std.specs.List.{slice_split}
use Rattle.std.specs.Option.{option_and_then}
use Rattle.std.specs.Result.{result_ok}
use Rattle.std.specs.Float.{Float, Format}
use Rattle.std.specs.Float.Parse.{IsParseFloatResult, parse_float}
use Rattle.std.proofs.lemmas.List.{at_drop_all, at_drop_more}
use Rattle.tiff_script.specs.declared.words.ParseError.{ParseError}
use Rattle.tiff_script.specs.declared.words.ParseError.TheVariants.{Form, OutOfMemory}
use Rattle.tiff_script.specs.Line.{Reads, after_all, space, words_of}

-- The number that is parsed.
pub parsed_float : {E : Type 0} (format : Format) (word : List ℕ) (r : Result Float E)
    → IsParseFloatResult format word r → result_ok r ≡ parse_float format word
parsed_float format word (Ok x) h = sym h
parsed_float format word (Err e) h = sym h

-- One step more.
pub one_more : {S A : Type 0} (step : S → A → Option S) (s : S) (all : List A) (n : ℕ) (x : A)
    → (n < length all) × (x ≡ get_or all n x)
    → after_all step s (drop n all)
    ≡ option_and_then (λ t. after_all step t (drop (n + 1) all)) (step s x)
one_more step s all n x h =
    at_drop_more (after_all step s) all n x h.0
    ∙ ap (λ y. option_and_then (λ t. after_all step t (drop (n + 1) all)) (step s y)) (sym h.1)

-- An error of a part is one of the whole.
pub passed_on : {A B C D : Type 0} (v : A → B) (w : C → D) (part : Option B) (whole : Option D)
    (e : ParseError) → Reads v part (Err e) → (part ≡ None → whole ≡ None) → Reads w whole (Err e)
passed_on v w part whole Form h k = k h
passed_on v w part whole OutOfMemory h k = tt

-- Nothing is spelled where the form is refused.
pub form_refused : {A B : Type 0} (v : A → B) (o : Option B) (e : ParseError) → Reads v o (Err e)
    → e ≡ Form → o ≡ None
form_refused v o Form h same = h
form_refused v o OutOfMemory h same = absurd (cc (same))

-- A step that fails.
pub stopped : {S A : Type 0} (step : S → A → Option S) (s : S) (all : List A) (n : ℕ) (x : A)
    (whole : Option S) → (n < length all) × (x ≡ get_or all n x)
    → after_all step s (drop n all) ≡ whole → step s x ≡ None → whole ≡ None
stopped step s all n x whole h e none =
    sym e ∙ one_more step s all n x h
    ∙ ap (λ o. option_and_then (λ t. after_all step t (drop (n + 1) all)) o) none

-- A step that is made.
pub stepped : {S A : Type 0} (step : S → A → Option S) (s t : S) (all : List A) (n : ℕ) (x : A)
    (whole : Option S) → (n < length all) × (x ≡ get_or all n x)
    → after_all step s (drop n all) ≡ whole → step s x ≡ Some t
    → after_all step t (drop (n + 1) all) ≡ whole
stepped step s t all n x whole h e some =
    sym (one_more step s all n x h ∙ ap (λ o. option_and_then (λ t. after_all step t (drop (n + 1) all)) o) some) ∙ e

-- All steps are made.
pub finished : {S A : Type 0} (step : S → A → Option S) (s : S) (all : List A) (n : ℕ)
    (whole : Option S) → length all ≤ n
    → after_all step s (drop n all) ≡ whole → whole ≡ Some s
finished step s all n whole h e = sym e ∙ at_drop_all (after_all step s) all n h

-- The words of a line that isn't empty.
pub words_split : (line : List ℕ) → (length line == 0) ≡ false
    → words_of line ≡ slice_split (λ b. b == space) line
words_split line e = rw e refl
