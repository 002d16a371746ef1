-- Lists of jobs that are read line by line.
use Rattle.std.proofs.Common.{◌≡◌, ℕ, ◌<◌, ◌≤◌, ◌+◌, List, length, drop, get_or, ap, sym, ◌∙◌, Option, None, Some, refl, is_none, if◌then◌else◌, ok_or}
use Rattle.std.specs.Prelude.{Result, Ok, Err}
use Rattle.std.specs.Option.{option_map}
use Rattle.std.specs.Result.{result_map_both}
use Rattle.std.proofs.lemmas.List.{at_drop_all, at_drop_more}
use Rattle.tiff_script.specs.declared.jobs.Begun.{Begun}
use Rattle.tiff_script.specs.Jobs.{JobData, Lines, ended_at, jobs_from, next, or_refused, with_line}

-- One line more.
line_more : (n : ℕ) (s : Lines) (all : List (List ℕ)) (i : ℕ) (x : List ℕ)
    → (i < length all) × (x ≡ get_or all i x)
    → jobs_from n s (drop i all) ≡ or_refused n (with_line s x) (λ t. jobs_from (next n) t (drop (i
    + 1) all))
line_more n s all i x h =
    at_drop_more (jobs_from n s) all i x h.0
    ∙ ap (λ y. or_refused n (with_line s y) (λ t. jobs_from (next n) t (drop (i + 1) all))) (sym h.1)

-- A line that is read.
pub line_read : (n : ℕ) (s t : Lines) (all : List (List ℕ)) (i : ℕ) (x : List ℕ)
    (whole : Result (List JobData) ℕ) → (i < length all) × (x ≡ get_or all i x)
    → jobs_from n s (drop i all) ≡ whole → with_line s x ≡ Some t
    → jobs_from (next n) t (drop (i + 1) all) ≡ whole
line_read n s t all i x whole h e some =
    sym (line_more n s all i x h ∙ ap (λ o. or_refused n o (λ t. jobs_from (next n) t (drop (i + 1) all))) some) ∙ e

-- A line that is refused.
pub line_refused : (n : ℕ) (s : Lines) (all : List (List ℕ)) (i : ℕ) (x : List ℕ)
    (whole : Result (List JobData) ℕ) → (i < length all) × (x ≡ get_or all i x)
    → jobs_from n s (drop i all) ≡ whole → with_line s x ≡ None → whole ≡ Err n
line_refused n s all i x whole h e none =
    sym e ∙ line_more n s all i x h
    ∙ ap (λ o. or_refused n o (λ t. jobs_from (next n) t (drop (i + 1) all))) none

-- The end of a job that is open, or all jobs.
jobs_left : {X : Type 0} (view : X → List JobData) (n : ℕ) (begun : Option Begun)
    (jobs : List JobData) (o : Option X)
    → option_map view o ≡ (if is_none begun then Some jobs else None)
    → ended_at n begun jobs ≡ result_map_both view (λ m. m) (ok_or o n)
jobs_left view n None jobs None e = absurd (cc (e))
jobs_left view n None jobs (Some x) e =
    let same : view x ≡ jobs = cc (e) in ap (λ js. Ok js) (sym same)
jobs_left view n (Some begun) jobs None e = refl
jobs_left view n (Some begun) jobs (Some x) e = absurd (cc (e))

-- All lines are read.
pub all_read : {X : Type 0} (view : X → List JobData) (n : ℕ) (s : Lines) (all : List (List ℕ))
    (i : ℕ) (whole : Result (List JobData) ℕ) (o : Option X) → length all ≤ i
    → jobs_from n s (drop i all) ≡ whole
    → option_map view o ≡ (if is_none s.begun then Some s.jobs else None)
    → whole ≡ result_map_both view (λ m. m) (ok_or o n)
all_read view n s all i whole o h e left =
    sym e ∙ at_drop_all (jobs_from n s) all i h ∙ jobs_left view n s.begun s.jobs o left
