-- Lists of a file of which a caller has windows.
use Rattle.std.proofs.Common.{◌≡◌, ◌∙◌, ◌==◌, ℕ, ◌+◌, ◌<◌, ◌≤◌, Bool, true, false, cond, List, length, Result, Ok, Err, IfErr, IfOk, MatchResult, Option, None, Some, sym, ap, subst, arith}
use Rattle.std.specs.Int.{w16}
use Rattle.tiff_base.specs.declared.error.TiffError.{TiffError}
use Rattle.tiff_base.specs.declared.windows.Stretch.{Stretch}
use Rattle.tiff_base.specs.declared.windows.Windows.{Windows}
use Rattle.tiff_base.specs.Answers.{◌>>=◌, Answers, AnswersBut, AnswersWithoutSource, ReadsOnly, IsCause, IsNotDevice}
use Rattle.tiff_base.specs.Header.{order_at}
use Rattle.tiff_base.specs.Number.{number_at}
use Rattle.tiff_base.specs.SourceAndSink.{AreReadable, SourceRecord, answers_for}
use Rattle.tiff_base.specs.Windows.{IsWanted, seen_by}
use Rattle.tiff_base.specs.lemmas.Causes.{cause_along}
use Rattle.tiff_ifd.specs.declared.limits.Limits.{Limits}
use Rattle.tiff_ifd.specs.Stretches.{HeaderReadable, header_len_of}
use Rattle.tiff_decode.specs.Machine.{Decoding}
use Rattle.tiff_decode.specs.Opened.{opened_of}
use Rattle.tiff_decode.specs.Outcome.{set_limits}
use Rattle.tiff_pages.specs.declared.check.PageCheck.{PageCheck}
use Rattle.tiff_pages.specs.declared.pages.PageList.{PageList}
use Rattle.tiff_pages.specs.declared.tree.DirectoryList.{DirectoryList}
use Rattle.tiff_pages.specs.Check.{check_at}
use Rattle.tiff_pages.specs.OfFile.{check_of, list_of, tree_of, under}
use Rattle.tiff_pages.specs.Pages.{pages_in, pages_of}
use Rattle.tiff_pages.specs.Tree.{directories_in, directories_of}

-- ---- results

-- No read failed, so a result is that of the file.
module _ {X Y : Type 0} (view : X → Y) where
  without_source : (given : Result Y TiffError) (result : Result X TiffError) (before after : ℕ)
      → Answers view result given before after → before ≡ 0 → after ≡ 0
      → AnswersWithoutSource view result given
  without_source given (Ok x) before after h a b = h
  without_source given (Err e) before after h a b =
      cause_along e (λ w. w) (λ f. omega (arith, f, a, b)) (λ g. g) h

  of_opened : (of : Decoding → Y) (file : List ℕ) (d : Decoding) (result : Result X TiffError)
      (before after : ℕ) → opened_of file 0 ≡ Ok d
      → Answers view result (Ok (of d)) before after → before ≡ 0 → after ≡ 0
      → AnswersWithoutSource view result (opened_of file 0 >>= λ x. Ok (of x))
  of_opened of file d result before after h a b e =
      let P : Result Y TiffError → Type 0 = λ g. AnswersWithoutSource view result g in
      subst P (sym (ap (λ (r : Result Decoding TiffError). r
      >>= λ x. Ok (of x)) h)) (without_source (Ok (of d)) result before after a b e)

pub pages_here : (file : List ℕ) (d : Decoding) (result : Result PageList TiffError)
    (before after : ℕ) → opened_of file 0 ≡ Ok d
    → Answers pages_in result (Ok (pages_of d)) before after → before ≡ 0 → after ≡ 0
    → AnswersWithoutSource pages_in result (list_of file)
pages_here = of_opened pages_in pages_of

pub directories_here : (file : List ℕ) (d : Decoding) (result : Result DirectoryList TiffError)
    (before after : ℕ) → opened_of file 0 ≡ Ok d
    → Answers directories_in result (Ok (directories_of d)) before after → before ≡ 0 → after ≡ 0
    → AnswersWithoutSource directories_in result (tree_of file)
directories_here = of_opened directories_in directories_of

-- ---- lists of windows

pub pages_seen : (file : List ℕ) (d : Decoding) (result : Result PageList TiffError)
    (before after : ℕ) → opened_of file 0 ≡ Ok (record d { readable = None })
    → Answers pages_in result (Ok (pages_of d)) before after → before ≡ 0 → after ≡ 0
    → AnswersWithoutSource pages_in result (list_of file)
pages_seen file d result before after h a b e =
    pages_here file (record d { readable = None }) result before after h a b e

pub directories_seen : (file : List ℕ) (d : Decoding) (result : Result DirectoryList TiffError)
    (before after : ℕ) → opened_of file 0 ≡ Ok (record d { readable = None })
    → Answers directories_in result (Ok (directories_of d)) before after → before ≡ 0 → after ≡ 0
    → AnswersWithoutSource directories_in result (tree_of file)
directories_seen file d result before after h a b e =
    directories_here file (record d { readable = None }) result before after h a b e

pub same_limits : (a b : Limits)
    → (a.decoding_buffer_size ≡ b.decoding_buffer_size)
    × ((a.ifd_value_size ≡ b.ifd_value_size) × (a.intermediate_buffer_size
    ≡ b.intermediate_buffer_size)) → a ≡ b
same_limits a b h =
    λ i. record { decoding_buffer_size = h.0 i; ifd_value_size = h.1.0 i; intermediate_buffer_size = h.1.1 i }

abbrev one_check : PageCheck → Result PageCheck TiffError
one_check check = Ok check

pub check_seen : (file : List ℕ) (limits : Limits) (offset : ℕ) (d mid : Decoding)
    (result : Result PageCheck TiffError) (before after : ℕ)
    → opened_of file 0 ≡ Ok (record d { readable = None }) → mid ≡ under limits d
    → IfOk result (λ check. check ≡ check_at mid offset)
    → IfErr result (λ e. IsCause (Unit {0}) (before < after) e ⊥) → before ≡ 0 → after ≡ 0
    → AnswersWithoutSource (λ check. check) result (check_of file limits offset)
unfolding set_limits
check_seen file limits offset d mid (Ok check) before after h m is refused b e =
    ap (λ (r : Result Decoding TiffError). r >>= λ x. Ok (check_at (under limits x) offset)) h
    ∙ ap one_check (sym (is ∙ ap (λ (x : Decoding). check_at x offset) m))
check_seen file limits offset d mid (Err f) before after h m is refused b e =
    cause_along f (λ w. w) (λ g. omega (arith, g, b, e)) (λ g. absurd g) refused

-- what a source of the same windows wants
pub wanted_seen : (file : List ℕ) (seen mine : Windows) (s : Stretch) → length file ≡ seen.len
    → length file ≡ mine.len
    → (seen_by mine file).readable ≡ (seen_by seen file).readable → IsWanted mine s
    → IsWanted seen s
wanted_seen file seen mine s l m e w = record {
  some = w.some;
  within = subst (λ n. s.offset + s.len ≤ n) (sym m ∙ l) w.within;
  unseen = subst (λ r. answers_for r s.offset ≡ false) e w.unseen;
}

-- What is told of the file, if nothing is wanted.
pub unless_told : {X : Type 0} (P : Result X TiffError → Type 0) (seen : Windows)
    (told : Result (Result X TiffError) Stretch) (answer : Result X TiffError) (wanted : Option Stretch)
    → MatchResult told (λ t. (t ≡ answer) × (wanted ≡ None)) (λ s. wanted ≡ Some s)
    → (wanted ≡ None → P answer) → ((s : Stretch) → wanted ≡ Some s → IsWanted seen s)
    → MatchResult told P (IsWanted seen)
unless_told P seen (Ok t) answer wanted h f g = subst P (sym h.0) (f h.1)
unless_told P seen (Err s) answer wanted h f g = g s h

-- ---- opening

short : (b : Bool) → cond b 16 8 ≤ 16
short true = omega arith
short false = omega arith

header_short : (r : Result ℕ TiffError) → header_len_of r ≤ 16
header_short (Ok version) = short (version == 43)
header_short (Err e) = omega arith

header_readable : (source : SourceRecord) → AreReadable source 0 16 → HeaderReadable source
header_readable source h k low high =
    h k low (omega (arith, high, header_short (order_at source.bytes >>= (λ order. number_at order w16 source.bytes 2))))

-- an error that isn't the device's
not_device : (wanting failed : Type 0) (e : TiffError) (given : Type 0) → IsNotDevice e
    → IsCause wanting failed e given → IsCause wanting ⊥ e given
not_device wanting failed e given n h =
    record { memory = h.memory; device = λ is. absurd (cc); other = h.other }

pub opened_seen : (file : List ℕ) (source : SourceRecord) (failed : ℕ) (fails : Type 0)
    (result : Result Decoding TiffError) → failed ≡ 0
    → AnswersBut (Unit {0}) fails (λ (d : Decoding). record d { readable = None; failures = failed }) result (opened_of file failed)
    → IfOk result (λ d. d.failures ≡ failed) → ReadsOnly (HeaderReadable source) result
    → AreReadable source 0 16
    → AnswersWithoutSource (λ (d : Decoding). record d { readable = None }) result (opened_of file 0)
opened_seen file source failed fails (Ok d) z a f asks h =
    subst (λ n. opened_of file n ≡ Ok (record d { readable = None; failures = n })) z a
    ∙ ap (λ n. Ok (record d { readable = None; failures = n })) (sym z ∙ sym f)
opened_seen file source failed fails (Err e) z a f asks h =
    not_device (Unit {0}) fails e (opened_of file 0 ≡ Err e) (asks (header_readable source h))
    (subst (λ n. IsCause (Unit {0}) fails e (opened_of file n ≡ Err e)) z a)
