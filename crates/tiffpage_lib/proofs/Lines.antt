-- Lines of fields, one after another.
use Rattle.std.proofs.Common.{rules, ◌≡◌, ◌+◌, ◌<◌, ◌≤◌, ℕ, List, [], ◌∷◌, drop, length, get_or, Option, None, Some, Ok, Err, Result, refl, ap, sym, ◌∙◌, append_assoc, arith}
use Rattle.std.proofs.Math.Seq.{drop-cons}
use Rattle.std.proofs.lemmas.List.{drop_all}
use Rattle.tiff_base.specs.declared.error.TiffError.{TiffError}
use Rattle.tiff_base.specs.declared.tags.IfdPointer.{IfdPointer}
use Rattle.tiff.specs.lemmas.Causes.{cause_along}
use Rattle.tiff.specs.Answers.{Answers, IsCause, ◌>>=◌}
use Rattle.tiff.specs.Machine.{Decoding}
use Rattle.tiff_decode.specs.Outcome as outcome
use Rattle.tiffpage_lib.specs.Listing.{after, field_line, lines, listing, listing_at, numbers_at}
use Rattle.tiffpage_lib.proofs.Visits.{answers_along}

-- One item and the rest.
pub next_and_rest : (xs : List ℕ) (i x : ℕ) → i < length xs
    → drop i xs ≡ get_or xs i x ∷ drop (i + 1) xs
next_and_rest xs i x h = search (rules, drop-cons)

-- A line, and what follows it.
more_by : (line rest whole : Result (List ℕ) TiffError) (text more : List ℕ)
    → after text (line >>= λ first. after first rest) ≡ whole → after text line ≡ Ok more
    → after more rest ≡ whole
more_by (Ok first) (Ok l) whole text more e f = search (rules, append_assoc)
more_by (Ok first) (Err x) whole text more e f = search rules
more_by (Err x) rest whole text more e f = search rules

-- Failed reads change no line.
same_line : (now d : Decoding) (tag : ℕ) → now ≡ record d { failures = now.failures }
    → field_line now tag ≡ field_line d tag
same_line now d tag e = (λ i. field_line (e i) tag)

-- The lines with one more tag.
pub lines_more : (now d : Decoding) (tags text more : List ℕ) (i x : ℕ) → i < length tags
    → now ≡ record d { failures = now.failures }
    → after text (lines d (drop i tags)) ≡ lines d tags
    → after text (field_line now (get_or tags i x)) ≡ Ok more
    → after more (lines d (drop (i + 1) tags)) ≡ lines d tags
lines_more now d tags text more i x h s e f =
    more_by (field_line d (get_or tags i x)) (lines d (drop (i + 1) tags)) (lines d tags) text more
    (ap (λ l. after text (lines d l)) (sym (next_and_rest tags i x h)) ∙ e)
    (ap (after text) (sym (same_line now d (get_or tags i x) s)) ∙ f)

-- The error of a line is the error of the lines that it begins.
cut_by : (line rest whole : Result (List ℕ) TiffError) (text : List ℕ) (x : TiffError)
    → after text (line >>= λ first. after first rest) ≡ whole → after text line ≡ Err x
    → whole ≡ Err x
cut_by (Ok first) rest whole text x e f = search rules
cut_by (Err y) rest whole text x e f = sym e ∙ f

-- The error of a line is the error of all lines.
pub lines_cut : (now d : Decoding) (tags text : List ℕ) (i x failures : ℕ) (fault : TiffError)
    → i < length tags
    → now ≡ record d { failures = now.failures } → d.failures ≤ now.failures
    → after text (lines d (drop i tags)) ≡ lines d tags
    → IsCause (Unit {0}) (now.failures < failures) fault (after text (field_line now (get_or tags i x)) ≡ Err fault)
    → IsCause (Unit {0}) (d.failures < failures) fault (lines d tags ≡ Err fault)
lines_cut now d tags text i x failures fault h s l e c =
    cause_along fault (λ w. w) (λ g. omega (arith, l, g))
    (λ f. cut_by (field_line d (get_or tags i x)) (lines d (drop (i + 1) tags)) (lines d tags) text fault
    (ap (λ m. after text (lines d m)) (sym (next_and_rest tags i x h)) ∙ e)
    (ap (after text) (sym (same_line now d (get_or tags i x) s)) ∙ f))
    c

-- Nothing stands before a text.
none_before : (r : Result (List ℕ) TiffError) → after [] r ≡ r
none_before (Ok l) = refl
none_before (Err x) = refl

-- No line is appended yet.
pub lines_none : (d : Decoding) (tags : List ℕ) → after [] (lines d tags) ≡ lines d tags
lines_none d tags = none_before (lines d tags)

-- No line is left.
pub lines_all : (d : Decoding) (tags text : List ℕ) (i : ℕ) → length tags ≤ i
    → after text (lines d (drop i tags)) ≡ lines d tags
    → lines d tags ≡ Ok text
lines_all d tags text i h e = search (rules, drop_all)

-- ---- the lines of a directory

-- Failed reads change no lines.
same_lines : (d : Decoding) (n : ℕ) (tags : List ℕ)
    → lines (record d { failures = n }) tags ≡ lines d tags
same_lines d n [] = refl
same_lines d n (tag ∷ tags) =
    ap (λ (l : Result (List ℕ) TiffError). field_line d tag
    >>= λ first. after first l) (same_lines d n tags)

same_listing_at : (d : Decoding) (n : ℕ) (p : Option IfdPointer)
    → listing_at (record d { failures = n }) p ≡ listing_at d p
unfolding outcome.read_directory
same_listing_at d n None = refl
same_listing_at d n (Some p) = (λ i. numbers_at d p >>= λ numbers. same_lines d n numbers i)

-- Failed reads change no lines of a directory.
pub same_listing : (d : Decoding) (n : ℕ) → listing (record d { failures = n }) ≡ listing d
same_listing d n = same_listing_at d n d.state.pointer

-- The lines of the tag numbers that were found.
pub listing_more : {X : Type 0} (view : X → List ℕ) (old mid : Decoding) (p : Option IfdPointer)
    (q : IfdPointer) (numbers : List ℕ) (r : Result X TiffError) (failures : ℕ)
    → p ≡ Some q → numbers_at old q ≡ Ok numbers → mid ≡ record old { failures = mid.failures }
    → old.failures ≤ mid.failures
    → Answers view r (lines mid numbers) mid.failures failures
    → Answers view r (listing_at old p) old.failures failures
listing_more view old mid p q numbers r failures is e kept l a =
    answers_along view r (lines mid numbers) (listing_at old p) old.failures mid.failures failures
    (ap (λ (d : Decoding). lines d numbers) kept ∙ same_lines old mid.failures numbers
    ∙ ap (λ (found : Result (List ℕ) TiffError). found >>= λ ns. lines old ns) (sym e) ∙ ap (λ (o : Option IfdPointer). listing_at old o) (sym is))
    l a
