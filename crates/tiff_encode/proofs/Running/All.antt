-- Lists of jobs in sequence.
use Rattle.std.proofs.Common.{◌≡◌, ℕ, ◌+◌, ◌-◌, ◌<◌, Bool, true, false, ◌⊎◌, List, [], ◌∷◌, ◌++◌, length, take, drop, get_or, Some, Vec, refl, ap, sym, ◌∙◌, inl, inr, subst, arith, append-nil, append_assoc}
use Rattle.std.proofs.lemmas.List.{take_more, take_all, length-append, length-drop}
use Rattle.std.proofs.lemmas.Option.{slice_get-get_or}
use Rattle.std.proofs.Math.Seq.{drop-append_seam}
use Rattle.std.specs.Prelude.{zero, suc, slice_get}
use Rattle.std.specs.declared.alloc.Global.{Global}
use Rattle.tiff_base.specs.declared.tags.FileKind.{FileKind}
use Rattle.tiff_encode.specs.declared.encoder.script.Job.{Job}
use Rattle.tiff_encode.specs.declared.encoder.script.JobReply.{JobReply}
use Rattle.tiff_value.specs.Model.{IsLink, header_model}
use Rattle.tiff_encode.specs.Machine.{FileState, begun_file}
use Rattle.tiff_encode.specs.Shows.{LeavesHeader}
use Rattle.tiff_encode.specs.Jobs.{Run, new_run, JobRan, JobsRun, LeavesJobs, RunShows}
use Rattle.tiff_encode.specs.Stepping.{IsHeld, IsSound, JobMoves}
use Rattle.tiff_encode.specs.Running.{step_count, JobsMove, IsEmptyWithRoom, AreRooms}
use Rattle.tiff_encode.proofs.PageTold.Page.{page_told}
use Rattle.tiff_encode.proofs.Shown.Images.{images_show_by}
use Rattle.tiff_encode.proofs.Open.Ends.{ended_shown_by}
use Rattle.tiff_base.specs.lemmas.Slices.{some_inj, none_some}

-- ---- one more job

jobs_snoc : (old mid new : Run) (jobs : List Job) (replies : List JobReply) (j : Job) (r : JobReply)
    → JobsRun old jobs replies mid
    → JobRan mid j r new → JobsRun old (jobs ++ j ∷ []) (replies ++ r ∷ []) new
jobs_snoc old mid new [] [] j r h x = (new, (subst (λ m. JobRan m j r new) h x, refl))
jobs_snoc old mid new [] (y ∷ replies) j r h x = absurd h
jobs_snoc old mid new (k ∷ jobs) [] j r h x = absurd h
jobs_snoc old mid new (k ∷ jobs) (y ∷ replies) j r h x =
    (h.0, (h.1.0, jobs_snoc h.0 mid new jobs replies j r h.1.1 x))

-- no job is run
pub jobs_none : (earlier : List JobReply) (file : FileState) → JobsMove [] earlier earlier file file
jobs_none earlier file =
    ([], (sym (append-nil earlier), λ known run q o s. (run, (q, (refl, (s, o))))))

-- one more job, behind the jobs that are run
jobs_more : (jobs : List Job) (earlier all : List JobReply) (start : ℕ) (j : Job) (r : JobReply)
    (old mid new : FileState)
    → start ≡ length earlier → JobsMove jobs earlier all old mid
    → JobMoves j (drop start all) r mid new
    → JobsMove (jobs ++ j ∷ []) earlier (all ++ r ∷ []) old new
jobs_more jobs earlier all start j r old mid new at m n =
    let replies : List JobReply = m.0 in
    let here : drop start all ≡ replies =
    ap (λ k. drop k all) at ∙ ap (λ xs. drop (length earlier) xs) m.1.0
    ∙ drop-append_seam earlier replies in
    let all_are : all ++ r ∷ [] ≡ earlier ++ (replies ++ r ∷ []) =
    ap (λ xs. xs ++ r ∷ []) m.1.0 ∙ append_assoc earlier replies (r ∷ []) in (
      replies ++ r ∷ [],
      (
        all_are,
        λ known run q o s.
            let x = m.1.1 known run q o s in
            let moves : JobMoves j replies r mid new =
            subst (λ xs. JobMoves j xs r mid new) here n in
            let y = moves known x.0 x.1.0 x.1.1.1.1 x.1.1.1.0 in
            (y.0, (y.1.0, (jobs_snoc run x.0 y.0 jobs replies j r x.1.1.0 y.1.1.0, (y.1.1.1.0, y.1.1.1.1)))),
      ),
    )

-- the replies from an index on
pub replies_from : (xs all : List JobReply) (start : ℕ) → xs ≡ all
    → take (length xs - start) (drop start xs) ≡ drop start all
replies_from xs all start is =
    take_all (length xs - start) (drop start xs) (let l = length-drop start xs in omega (arith, l))
    ∙ ap (λ ys. drop start ys) is

-- one iteration of the loop
pub jobs_next : (jobs : List Job) (earlier all after : List JobReply) (start n : ℕ) (j : Job)
    (r : JobReply) (old mid new : FileState)
    → n < length jobs → j ≡ get_or jobs n j → start ≡ length earlier → after ≡ all ++ r ∷ []
    → JobsMove (take n jobs) earlier all old mid → JobMoves j (drop start all) r mid new
    → JobsMove (take (n + 1) jobs) earlier after old new
jobs_next jobs earlier all after start n j r old mid new l v at e m x =
    let more : take (n + 1) jobs ≡ take n jobs ++ j ∷ [] =
    take_more jobs n j l ∙ ap (λ y. take n jobs ++ y ∷ []) (sym v) in
    subst (λ js. JobsMove js earlier after old new) (sym more)
    (subst (λ xs. JobsMove (take n jobs ++ j ∷ []) earlier xs old new) (sym e) (jobs_more (take n jobs) earlier all start j r old mid new at m x))

-- ---- a whole run

-- whether a sink is empty
abbrev is_none : List ℕ → Bool
is_none [] = true
is_none (x ∷ xs) = false

told_none : (contents : List ℕ) → is_none contents ≡ true → contents ≡ []
told_none [] h = refl
told_none (x ∷ contents) h = absurd cc

none_told : (contents : List ℕ) → contents ≡ [] → is_none contents ≡ true
none_told contents h = ap is_none h

-- after the header is written, the properties of a run hold
started_sound : (kind : FileKind) (contents : List ℕ) (failures : ℕ) (first : FileState)
    → first ≡ begun_file kind contents failures
    → (contents ≡ [] → LeavesHeader kind first.bytes first.chain)
    → IsSound (is_none contents) (new_run kind contents failures)
started_sound kind contents failures first is leaves =
    let file : FileState = begun_file kind contents failures in
    let header : contents ≡ [] → LeavesHeader kind file.bytes file.chain =
    subst (λ f. contents ≡ [] → LeavesHeader kind f.bytes f.chain) is leaves in
    record {
      stands = λ k. (header (told_none contents k)).stands;
      chain =
          λ k offset p. subst (λ n. IsLink kind (header_model kind) n) (some_inj file.chain offset p) (header (told_none contents k)).link;
      offsets = λ o i. absurd i;
      images = λ f i. absurd i;
    }

-- a run whose model describes the file shows the images that it holds
pub run_shows : (run : Run) → IsSound true run → RunShows run
run_shows run s f i =
    let h : IsHeld run.standing f = s.images f i in
    let kind : FileKind = run.standing.file.kind in
    let file : List ℕ = run.standing.file.bytes in
    h.shown file
    (ended_shown_by (images_show_by page_told) kind file run.standing.model h.image h.samples f.offset (s.stands refl) h.held)

pub jobs_run : (kind : FileKind) (contents : List ℕ) (failures : ℕ) (jobs : List Job)
    (earlier all : List JobReply) (first last : FileState)
    (bytes : List ℕ) (after : ℕ) → first ≡ begun_file kind contents failures
    → (contents ≡ [] → LeavesHeader kind first.bytes first.chain)
    → JobsMove jobs earlier all first last → bytes ≡ last.bytes → after ≡ last.failures
    → (replies : List JobReply) × ((all ≡ earlier ++ replies)
    × LeavesJobs kind jobs replies contents failures bytes after)
jobs_run kind contents failures jobs earlier all first last bytes after is leaves m b n =
    let run : Run = new_run kind contents failures in
    let x =
    m.1.1 (is_none contents) run (sym is) refl (started_sound kind contents failures first is leaves) in
    let end : Run = x.0 in
    let sound : IsSound (is_none contents) end = x.1.1.1.0 in (
      m.0,
      (
        m.1.0,
        record {
          run = end;
          run_is = x.1.1.0;
          bytes_are = b ∙ ap (λ f. f.bytes) (sym x.1.0);
          failures_are = n ∙ ap (λ f. f.failures) (sym x.1.0);
          stands = λ h. sound.stands (none_told contents h);
          shows = λ h. run_shows end (subst (λ k. IsSound k end) (none_told contents h) sound);
        },
      ),
    )

-- ---- lists with room for replies

module _ {A : Type 0} where
  got_more : (xs : List A) (y : A) (k : ℕ) (x : A) → slice_get (xs ++ y ∷ []) k ≡ Some x
      → (slice_get xs k ≡ Some x) ⊎ ((k ≡ length xs) × (y ≡ x))
  got_more [] y zero x h = inr (refl, some_inj y x h)
  got_more [] y (suc k) x h = absurd (none_some h)
  got_more (z ∷ xs) y zero x h = inl h
  got_more (z ∷ xs) y (suc k) x h =
      elim (got_more xs y k x h) as (λ _. (slice_get (z ∷ xs) (suc k) ≡ Some x)
      ⊎ ((suc k ≡ length (z ∷ xs)) × (y ≡ x))) [
        | inl q ↦ inl q
        | inr q ↦ inr (ap suc q.0, q.1)
      ]

  got_still : (xs : List A) (y : A) (k : ℕ) (x : A) → slice_get xs k ≡ Some x
      → slice_get (xs ++ y ∷ []) k ≡ Some x
  got_still [] y k x h = absurd (none_some h)
  got_still (z ∷ xs) y zero x h = h
  got_still (z ∷ xs) y (suc k) x h = got_still xs y k x h

  got_last : (xs : List A) (y : A) → slice_get (xs ++ y ∷ []) (length xs) ≡ Some y
  got_last [] y = refl
  got_last (z ∷ xs) y = got_last xs y

pub rooms_none : {A : Type 0} (jobs : List Job) → AreRooms {A = A} jobs []
rooms_none jobs k j room h q = absurd (none_some h)

-- the list of jobs contains the job at each of its indices
job_at : (jobs : List Job) (i : ℕ) (j : Job) → i < length jobs → j ≡ get_or jobs i j
    → slice_get jobs i ≡ Some j
job_at jobs i j l v = slice_get-get_or jobs i j l ∙ ap Some (sym v)

module _ {A : Type 0} (jobs : List Job) (all rooms : List (Vec A Global)) (room : Vec A Global)
    (is : all ≡ rooms ++ room ∷ []) where
  all_are : AreRooms jobs all → AreRooms jobs (rooms ++ room ∷ [])
  all_are a = subst (λ xs. AreRooms jobs xs) is a

  -- the lists without the last one
  pub rooms_left : AreRooms jobs all → AreRooms jobs rooms
  rooms_left a k i r g q = all_are a k i r (got_still rooms room k r g) q

  -- the last list has room for the replies of the first job that isn't run
  pub room_taken : (i : ℕ) (j : Job) → i < length jobs → j ≡ get_or jobs i j
      → length all + i ≡ length jobs → AreRooms jobs all
      → IsEmptyWithRoom (step_count j) room
  room_taken i j l v n a =
      let whole : length all ≡ length rooms + 1 =
      ap (λ xs. length xs) is ∙ length-append rooms (room ∷ []) in
      let at : length jobs - (length rooms + 1) ≡ i = omega (arith, whole, n, l) in
      all_are a (length rooms) j room (got_last rooms room) (ap (λ k. slice_get jobs k) at
      ∙ job_at jobs i j l v)

  -- one more list with room
  pub rooms_more : (n : ℕ) (j : Job) → n < length jobs → j ≡ get_or jobs (length jobs - 1 - n) j
      → length rooms ≡ n
      → AreRooms jobs rooms → IsEmptyWithRoom (step_count j) room → AreRooms jobs all
  rooms_more n j l v count a h =
      let at : length jobs - 1 - n ≡ length jobs - (length rooms + 1) = omega (arith, count, l) in
      let own : slice_get jobs (length jobs - (length rooms + 1)) ≡ Some j =
      ap (λ k. slice_get jobs k) (sym at)
      ∙ job_at jobs (length jobs - 1 - n) j (omega (arith, l)) v in
      subst (λ xs. AreRooms jobs xs) (sym is) (λ k i r g q. elim (got_more rooms room k r g) as (λ _. IsEmptyWithRoom (step_count i) r) [
        | inl p ↦ a k i r p q
        | inr p ↦ (let here : Some j ≡ Some i = sym own ∙ ap (λ n. slice_get jobs (length jobs - (n + 1))) (sym p.0) ∙ q in
            subst (λ x. IsEmptyWithRoom (step_count i) x) p.1 (subst (λ x. IsEmptyWithRoom (step_count x) room) (some_inj j i here) h))
      ])
