-- Words of a command line.
use Rattle.std.proofs.Common.{◌≡◌, ℕ, ◌+◌, ◌*◌, ◌<◌, ◌≤◌, inl, inr, Bool, true, false, List, [], ◌∷◌, length, map, slice_index_or, Option, None, Some, IfNone, ap, refl, sym, subst, ◌∙◌, arith}
use Rattle.std.proofs.lemmas.Bool.{eqb-true}
use Rattle.std.specs.Prelude.{◌==◌, String, codes, slice_index, string_bytes}
use Rattle.std.specs.declared.alloc.Global.{Global}
use Rattle.tiffpage_lib.specs.declared.command.Command.{Command}
use Rattle.tiffpage_lib.specs.declared.command.Command.TheVariants as command
use Rattle.tiffpage_lib.specs.Words.{AskForLimit, AskForPlanesLast, IsAppend, IsAsked, IsCalls, IsCheck, IsDirectories, IsGray, IsJobs, IsList, IsNumber, IsRaw, IsTags, IsView}

-- The bytes of the words, if there is one word.
pub one_word : (words : List (String Global)) (word : String Global) (text : List ℕ)
    → 1 ≤ length words → length words < 2 → word ≡ slice_index_or words 0 word
    → string_bytes word ≡ text → map string_bytes words ≡ text ∷ []
one_word [] word text some one at told = absurd (omega (arith, some))
one_word (w ∷ []) word text some one at told =
    ap (λ (x : List ℕ). x ∷ []) (ap string_bytes (sym at) ∙ told)
one_word (w ∷ v ∷ words) word text some one at told = absurd (omega (arith, one))

-- The bytes of the words, if there are two words.
pub two_words : (words : List (String Global)) (first second : String Global) → 2 ≤ length words
    → length words < 3 → first ≡ slice_index_or words 0 first
    → second ≡ slice_index_or words 1 second
    → map string_bytes words ≡ string_bytes first ∷ string_bytes second ∷ []
two_words [] first second some two at then = absurd (omega (arith, some))
two_words (w ∷ []) first second some two at then = absurd (omega (arith, some))
two_words (w ∷ v ∷ []) first second some two at then = cc
two_words (w ∷ v ∷ u ∷ words) first second some two at then = absurd (omega (arith, two))

-- A word that is no number is no limit.
pub no_limit : (words : List (List ℕ)) (name count : List ℕ) (limit : Option ℕ)
    → words ≡ name ∷ count ∷ [] → ((n : ℕ) → ¬ IsNumber 64 count n) → ¬ AskForLimit words limit
no_limit words name count None e h a = absurd (cc)
no_limit words name count (Some n) e h a =
    let same : a.0 ≡ count = cc (e, a.1) in
    let P : List ℕ → Type 0 = λ text. IsNumber 64 text n in
    h n (subst P same a.2)

-- Words whose third one is no number ask for no gray page.
no_rows : (output columns rows : List ℕ) (rest : List (List ℕ)) → ((n : ℕ) → ¬ IsNumber 32 rows n)
    → (c : Command) → ¬ IsGray (output ∷ columns ∷ rows ∷ rest) c
no_rows output columns rows (input ∷ more) h (command.Gray o w t i) a = h t a.2
no_rows output columns rows [] h (command.Gray o w t i) a = a
no_rows output columns rows rest h c a = absurd a

pub no_height : (words after behind rest : List (String Global))
    (output columns rows : String Global) → words ≡ output ∷ after → after ≡ columns ∷ behind
    → behind ≡ rows ∷ rest → ((n : ℕ) → ¬ IsNumber 32 (string_bytes rows) n) → (c : Command)
    → ¬ IsGray (map string_bytes words) c
no_height words after behind rest output columns rows at then last h =
    let all : words ≡ output ∷ columns ∷ rows ∷ rest =
    at ∙ ap (λ (w : List (String Global)). output ∷ w) (then
    ∙ ap (λ (w : List (String Global)). columns ∷ w) last) in
    let P : List (String Global) → Type 0 = λ w. (c : Command) → ¬ IsGray (map string_bytes w) c in
    subst P (sym all) (no_rows (string_bytes output) (string_bytes columns) (string_bytes rows) (map string_bytes rest) h)

-- no words are left
pub none_left : (words : List (String Global)) → (length words == 0) ≡ true → words ≡ []
none_left [] e = refl
none_left (w ∷ ws) e = absurd (omega (arith, eqb-true (length (w ∷ ws)) 0 e))

-- Words that ask for a limit, and behind that for all planes.
pub planes_last : (words after behind more : List (String Global))
    (name count planes : String Global) (limit : ℕ) → words ≡ name ∷ after → after ≡ count ∷ behind
    → behind ≡ planes ∷ more → more ≡ [] → string_bytes name ≡ codes "--limit" → string_bytes planes ≡ codes "--planes" → IsNumber 64 (string_bytes count) limit
    → AskForPlanesLast (map string_bytes words) (Some limit)
planes_last words after behind more name count planes limit at then last end named asked number =
    let P : List (String Global) → Type 0 =
    λ w. AskForPlanesLast (map string_bytes w) (Some limit) in
    let all : words ≡ name ∷ count ∷ planes ∷ [] =
    at ∙ ap (λ (w : List (String Global)). name ∷ w) (then
    ∙ ap (λ (w : List (String Global)). count ∷ w) (last ∙ ap (λ (w : List (String Global)). planes ∷ w) end)) in
    subst P (sym all) (named, number, asked, refl)

-- The first three letters of a name, as a number: no two commands have the same.
abbrev key : List ℕ → ℕ
key name = slice_index name 0 * 65536 + (slice_index name 1 * 256 + slice_index name 2)

abbrev Chosen : Bool → Type 0 → Type 0 → Type 0
Chosen true this other = this
Chosen false this other = other

-- What holds of a command that a name asks for, if it is the name of a command with words.
abbrev pub IsNamed : List ℕ → List (List ℕ) → Command → Type 0
IsNamed name words c =
    Chosen (key name == key (codes "raw")) (IsRaw words c)
    (Chosen (key name == key (codes "view")) (IsView words c)
    (Chosen (key name == key (codes "check")) (IsCheck words c)
    (Chosen (key name == key (codes "jobs")) (IsJobs words c)
    (Chosen (key name == key (codes "gray")) (IsGray words c)
    (Chosen (key name == key (codes "tags")) (IsTags words c)
    (Chosen (key name == key (codes "list")) (IsList words c)
    (Chosen (key name == key (codes "directories")) (IsDirectories words c)
    (Chosen (key name == key (codes "calls")) (IsCalls words c)
    (Chosen (key name == key (codes "append")) (IsAppend words c) (Unit {0}))))))))))

-- A name asks for no command of another name.
named : (name : List ℕ) (words : List (List ℕ)) (c : Command) → IsAsked name words c
    → IsNamed name words c
named name words (command.Raw input page output planes limit) h = rw h.0 h.1
named name words (command.View input page output) h = rw h.0 h.1
named name words (command.Check input limit) h = rw h.0 h.1
named name words (command.Jobs output kind keep_going) h = rw h.0 h.1
named name words (command.Gray output width height input) h = rw h.0 h.1
named name words (command.Tags input page) h = rw h.0 h.1
named name words (command.List input) h = rw h.0 h.1
named name words (command.Directories input) h = rw h.0 h.1
named name words (command.Calls input) h = rw h.0 h.1
named name words (command.Append file) h = rw h.0 h.1
named name words command.Help h = elim h.0 [ inl e ↦ rw e tt | inr e ↦ rw e tt ]
named name words command.Version h = rw h.0 tt

-- Words that ask for no command of the kind that a name has ask for none by this name.
pub none_named : (name : List ℕ) (words : List (List ℕ)) (found : Option Command)
    → IfNone found ((c : Command) → ¬ IsNamed name words c)
    → IfNone found ((c : Command) → ¬ IsAsked name words c)
none_named name words None h = λ c q. h c (named name words c q)
none_named name words (Some c) h = h
