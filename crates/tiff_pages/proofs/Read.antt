-- What is read at an offset: the page of a directory, the directory, and the values of a tag.
use Rattle.std.proofs.Common.{◌≡◌, ℕ, ◌<◌, List, Some, true, Result, Ok, Err, IfOk, MatchResult, refl, ap, sym, ◌∙◌, subst, arith}
use Rattle.tiff_base.specs.declared.error.TiffError.{TiffError}
use Rattle.tiff_base.specs.declared.error.TiffError.TheVariants.{IoError, OutOfMemory}
use Rattle.tiff_base.specs.declared.io.IoKind.TheVariants.{Device}
use Rattle.tiff_base.specs.declared.tags.IfdPointer.{IfdPointer}
use Rattle.tiff_base.specs.declared.tags.Tag.{Tag}
use Rattle.tiff_base.specs.Answers.{◌>>=◌, AnswersBut}
use Rattle.tiff_base.specs.Directory.{directory_at}
use Rattle.tiff_base.specs.Field.{DirectoryRecord}
use Rattle.tiff_page.specs.Page.{PageRecord}
use Rattle.tiff_decode.specs.Machine.{Decoding, Outcome, Follows, GivesOutcome, keeps_state}
use Rattle.tiff_decode.specs.Reader.{reader_of}
use Rattle.tiff_decode.specs.Outcome.{get_tag_u64_vec, page_in, read_directory, show_directory, show_outcome, with_page}
use Rattle.tiff_pages.specs.declared.pages.PageFacts.{PageFacts}
use Rattle.tiff_pages.specs.Pages.{HasItsPage, IsOfFile, OnlyReads, facts_at, facts_of, facts_told}
use Rattle.tiff_pages.specs.Tree.{Shows, shown_as, values_of}
use Rattle.tiff_pages.proofs.Shown.{shows_none}

abbrev Facts : Type 0
Facts = Result PageFacts TiffError

abbrev the_answer : TiffError → Result (Unit {0}) TiffError
the_answer e = Err e

-- ---- results

-- A result that comes from the file is the given one.
from_file : {X : Type 0} (o : Outcome X) (r : Result X TiffError) (old new : Decoding) → IsOfFile r
    → Follows (λ x. x) o r old new → GivesOutcome r o old new
from_file o (Ok u) old new k h = h
from_file o (Err e) old new k h = h.other k

-- Only the count of failed reads grew.
pub only_count : (old new : Decoding) → new ≡ record old { failures = new.failures }
    → new ≡ shown_as old new
only_count old new h =
    h ∙ sym (ap (λ (d : Decoding). record old { failures = new.failures; state = record old.state { page = d.state.page; directory = d.state.directory } }) h)

device : {X : Type 0} (old new : Decoding) → new ≡ record old { failures = new.failures }
    → old.failures < new.failures → Shows {X = X} (Err (IoError Device)) old new
device old new h g =
    record {
      shows = only_count old new h;
      failures = omega (arith, g);
      stays = tt;
      refused = record { memory = λ is. absurd (cc); device = λ is. g; other = λ is. absurd (cc) };
    }

same_then : {X : Type 0} (old new : Decoding) → new ≡ old → Shows {X = X} (Err OutOfMemory) old new
same_then {X = X} old new h =
    let P : Decoding → Type 0 = λ d. Shows {X = X} (Err OutOfMemory) old d in
    subst P (sym h) (record {
      shows = refl;
      failures = omega (arith);
      stays = tt;
      refused = record { memory = λ is. tt; device = λ is. absurd (cc); other = λ is. absurd (cc) };
    })

kept_by : {X Y : Type 0} (o : Outcome X) (e : TiffError) (old new : Decoding) → keeps_state e ≡ true
    → Follows {X = X} (λ x. x) o (Err e) old new → Shows {X = Y} (Err e) old new
kept_by o OutOfMemory old new k h = same_then old new (h.memory refl).1
kept_by o (IoError Device) old new k h =
    let f = h.device refl in device old new f.at.stands f.grew
kept_by o e old new k h = absurd (cc)

-- A call that ran out of memory, or failed by the device, shows nothing.
pub shows_refused : {X Y : Type 0} (o : Outcome X) (r : Result X TiffError) (e : TiffError)
    (old new : Decoding) → (r ≡ Err e) × (keeps_state e ≡ true)
    → Follows (λ x. x) o r old new → Shows {X = Y} (Err e) old new
shows_refused {X = X} o r e old new k h =
    let P : Result X TiffError → Type 0 = λ x. Follows (λ y. y) o x old new in
    kept_by o e old new k.1 (subst P k.0 h)

-- ---- a directory

still : {X : Type 0} (x : X) (old new : Decoding) → new ≡ old → Shows (Ok x) old new
still x old new h =
    let P : Decoding → Type 0 = λ d. Shows (Ok x) old d in
    subst P (sym h) (shows_none x old)

-- A directory was read, or its error comes from the file.
pub read_told : (r told : Result DirectoryRecord TiffError) (place : IfdPointer)
    (old new : Decoding) → (told ≡ r) × IsOfFile r
    → Follows (λ d. d) (read_directory old place) r old new
    → Shows (Ok told) old new × (told ≡ directory_at old.kind old.order old.bytes place.0)
unfolding read_directory
read_told r told place old new k h =
    let g = from_file (read_directory old place) r old new k.1 h in
    (still told old new g.at, k.0 ∙ sym g.answer)

-- ---- a page

-- The page at an offset is shown.
pub record IsShown (old new : Decoding) (offset : ℕ) : Type 0 where
  pub page : HasItsPage new
  pub facts : facts_at old offset ≡ Ok (facts_of new.state.page)
  pub shows : Shows {X = Unit {0}} (Ok tt) old new

shows_by : {X : Type 0} (x : X) (old new : Decoding) (page : PageRecord) (directory : DirectoryRecord)
    → new ≡ record old { state = record old.state { page = page; directory = directory } }
    → Shows (Ok x) old new
shows_by x old new page directory h =
    let n : new.failures ≡ old.failures = ap (λ (d : Decoding). d.failures) h in
    record {
      shows = h ∙ sym (ap (shown_as old) h);
      failures = omega (arith, n);
      stays = n;
      refused = tt;
    }

-- The directory and the page at an offset were read, and a decoder is at them.
pub record IsRead (old new : Decoding) (offset : ℕ) : Type 0 where
  pub directory : DirectoryRecord
  pub page : PageRecord
  pub found : directory_at old.kind old.order old.bytes offset ≡ Ok directory
  pub shown : page_in old.kind old.order old.bytes old.state.limits directory ≡ Ok page
  pub left : new ≡ record old { state = record old.state { page = page; directory = directory } }

page_read : (old new : Decoding) (offset : ℕ) (u : Unit {0}) (directory : DirectoryRecord)
    (page : Result PageRecord TiffError)
    → directory_at old.kind old.order old.bytes offset ≡ Ok directory
    → page_in old.kind old.order old.bytes old.state.limits directory ≡ page
    → (with_page old.state directory page).answer ≡ Ok u
    → new ≡ record old { state = (with_page old.state directory page).next }
    → IsRead old new offset
page_read old new offset u directory (Err e) r q a n = absurd (cc)
page_read old new offset u directory (Ok page) r q a n =
    record { directory = directory; page = page; found = r; shown = q; left = n }

directory_read : (old new : Decoding) (offset : ℕ) (u : Unit {0}) (read : Result DirectoryRecord TiffError)
    → directory_at old.kind old.order old.bytes offset ≡ read
    → (show_outcome old read).answer ≡ Ok u
    → new ≡ record old { state = (show_outcome old read).next } → IsRead old new offset
directory_read old new offset u (Err e) r a n = absurd (cc)
directory_read old new offset u (Ok directory) r a n =
    page_read old new offset u directory (page_in old.kind old.order old.bytes old.state.limits directory) r refl a n

-- A call that shows a directory reads its page.
pub shows_page : (place : IfdPointer) (u : Unit {0}) (old new : Decoding)
    → Follows (λ x. x) (show_directory old place) (Ok u) old new → IsRead old new place.0
unfolding show_directory
shows_page place u old new h =
    directory_read old new place.0 u (directory_at old.kind old.order old.bytes place.0) refl h.answer h.at

is_shown : (old new : Decoding) (offset : ℕ) → IsRead old new offset → IsShown old new offset
is_shown old new offset s =
    let P : Decoding → Type 0 = λ d. HasItsPage d in
    record {
      page = subst P (sym s.left) s.shown;
      facts =
          ap (λ (x : Result DirectoryRecord TiffError). x
          >>= page_in old.kind old.order old.bytes old.state.limits >>= λ p. Ok (facts_of p)) s.found
          ∙ ap (λ (x : Result PageRecord TiffError). x >>= λ p. Ok (facts_of p)) s.shown
          ∙ (let told : Facts = Ok (facts_of new.state.page) in let given : Facts = Ok (facts_of s.page) in let e : given ≡ told = sym (ap (λ (d : Decoding). facts_told (Ok tt) d.state.page) s.left) in e);
      shows = shows_by tt old new s.page s.directory s.left;
    }

pub shown : (r told : Result (Unit {0}) TiffError) (u : Unit {0}) (place : IfdPointer)
    (old new : Decoding) → (told ≡ r) × IsOfFile r → told ≡ Ok u
    → Follows (λ x. x) (show_directory old place) r old new → IsShown old new place.0
shown r told u place old new k t h =
    let P : Result (Unit {0}) TiffError → Type 0 =
    λ x. Follows (λ y. y) (show_directory old place) x old new in
    is_shown old new place.0 (shows_page place u old new (subst P (sym k.0 ∙ t) h))

abbrev told_error : TiffError → Facts
told_error e = Err e

same_error : (f e : TiffError) → the_answer f ≡ the_answer e → f ≡ e
same_error f e h = cc

-- The page at an offset has an error.
page_fault : (old new : Decoding) (offset : ℕ) (e : TiffError) (directory : DirectoryRecord)
    (page : Result PageRecord TiffError)
    → directory_at old.kind old.order old.bytes offset ≡ Ok directory
    → page_in old.kind old.order old.bytes old.state.limits directory ≡ page
    → (with_page old.state directory page).answer ≡ Err e
    → new ≡ record old { state = (with_page old.state directory page).next }
    → (facts_at old offset ≡ Err e) × (new ≡ old)
page_fault old new offset e directory (Ok page) r q a n = absurd (cc)
page_fault old new offset e directory (Err f) r q a n = (
  ap (λ (x : Result DirectoryRecord TiffError). x
      >>= page_in old.kind old.order old.bytes old.state.limits >>= λ p. Ok (facts_of p)) r
      ∙ ap (λ (x : Result PageRecord TiffError). x >>= λ p. Ok (facts_of p)) q
      ∙ ap told_error (same_error f e a),
  n,
)

directory_fault : (old new : Decoding) (offset : ℕ) (e : TiffError) (read : Result DirectoryRecord TiffError)
    → directory_at old.kind old.order old.bytes offset ≡ read
    → (show_outcome old read).answer ≡ Err e
    → new ≡ record old { state = (show_outcome old read).next }
    → (facts_at old offset ≡ Err e) × (new ≡ old)
directory_fault old new offset e (Err f) r a n = (
  ap (λ (x : Result DirectoryRecord TiffError). x
      >>= page_in old.kind old.order old.bytes old.state.limits >>= λ p. Ok (facts_of p)) r
      ∙ ap told_error (same_error f e a),
  n,
)
directory_fault old new offset e (Ok directory) r a n =
    page_fault old new offset e directory (page_in old.kind old.order old.bytes old.state.limits directory) r refl a n

fault_by : (place : IfdPointer) (e : TiffError) (old new : Decoding)
    → GivesOutcome (Err e) (show_directory old place) old new
    → (facts_at old place.0 ≡ Err e) × (new ≡ old)
unfolding show_directory
fault_by place e old new h =
    directory_fault old new place.0 e (directory_at old.kind old.order old.bytes place.0) refl h.answer h.at

pub fault : (r told : Result (Unit {0}) TiffError) (e : TiffError) (place : IfdPointer)
    (old new : Decoding) → (told ≡ r) × IsOfFile r → told ≡ Err e
    → Follows (λ x. x) (show_directory old place) r old new
    → Shows {X = Result PageFacts TiffError} (Ok (Err e)) old new
    × (Err e ≡ facts_at old place.0)
fault r told e place old new k t h =
    let P : Result (Unit {0}) TiffError → Type 0 =
    λ x. GivesOutcome x (show_directory old place) old new in
    let g =
    fault_by place e old new (subst P (sym k.0
    ∙ t) (from_file (show_directory old place) r old new k.1 h)) in
    (still (Err e) old new g.1, sym g.0)

-- The facts of the page that is shown are read.
pub only_reads : {X : Type 0} (r : Result X TiffError) (old new : Decoding) → OnlyReads r old new
    → Shows r old new
only_reads (Ok x) old new h = still x old new h.stays
only_reads (Err e) old new h =
    record { shows = only_count old new h.file.stands; failures = h.file.failures; stays = tt; refused = h.refused }

-- The result of a read of a directory.
pub read_answer : (r : Result DirectoryRecord TiffError) (result : Result (Result DirectoryRecord TiffError) TiffError) (place : IfdPointer) (old new : Decoding)
    → MatchResult result (λ told. (told ≡ r) × IsOfFile r) (λ e. (r ≡ Err e)
    × (keeps_state e ≡ true)) → Follows (λ d. d) (read_directory old place) r old new
    → Shows result old new × IfOk result (λ told. told
    ≡ directory_at old.kind old.order old.bytes place.0)
read_answer r (Ok told) place old new k h = read_told r told place old new k h
read_answer r (Err e) place old new k h =
    (shows_refused (read_directory old place) r e old new k h, tt)

-- ---- the values of a tag

-- A result that comes from the file is the given one, through a view.
given_of : {V Y : Type 0} (wanting failed : Type 0) (view : V → Y) (r : Result V TiffError)
    (given : Result Y TiffError) → IsOfFile r → AnswersBut wanting failed view r given
    → MatchResult r (λ v. given ≡ Ok (view v)) (λ e. given ≡ Err e)
given_of wanting failed view (Ok v) given k h = h
given_of wanting failed view (Err e) given k h = h.other k

abbrev pub AreValues : {V : Type 0} → (V → List ℕ) → Result (List ℕ) TiffError → Result V TiffError
    → Type 0
AreValues view given read = MatchResult read (λ v. given ≡ Ok (view v)) (λ e. given ≡ Err e)

values_by : (d reader : Decoding) (directory : DirectoryRecord) (tag : Tag)
    → reader ≡ reader_of d (Some directory)
    → (get_tag_u64_vec reader tag).answer ≡ values_of d directory tag
unfolding get_tag_u64_vec
values_by d reader directory tag h = ap (λ (x : Decoding). (get_tag_u64_vec x tag).answer) h

pub values_told : {V : Type 0} (wanting failed : Type 0) (view : V → List ℕ) (d reader : Decoding)
    (directory : DirectoryRecord) (tag : Tag) (r : Result V TiffError)
    (result : Result (Result V TiffError) TiffError) → reader ≡ reader_of d (Some directory)
    → MatchResult result (λ told. (told ≡ r) × IsOfFile r) (λ e. (r ≡ Err e)
    × (keeps_state e ≡ true))
    → AnswersBut wanting failed view r (get_tag_u64_vec reader tag).answer
    → IfOk result (AreValues view (values_of d directory tag))
values_told wanting failed view d reader directory tag r (Err e) h k a = tt
values_told {V = V} wanting failed view d reader directory tag r (Ok told) h k a =
    let given = given_of wanting failed view r (get_tag_u64_vec reader tag).answer k.1 a in
    let P : Result (List ℕ) TiffError → Type 0 = λ x. AreValues view x r in
    let Q : Result V TiffError → Type 0 = AreValues view (values_of d directory tag) in
    subst Q (sym k.0) (subst P (values_by d reader directory tag h) given)
