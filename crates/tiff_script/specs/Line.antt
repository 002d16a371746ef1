-- The parts of a line, and what a list of words stands for.
use Rattle.std.specs.Prelude.{◌≡◌, ℕ, ◌==◌, ◌^◌, Bool, List, [], ◌∷◌, ◌++◌, length, Option, None, Some, Result, Ok, Err, codes, if◌then◌else◌, nat_le, nat_lt, replicate}
use Rattle.std.specs.List.{after_first, before_first, position_or_len, slice_split}
use Rattle.std.specs.Option.{option_and_then}
use Rattle.tiff_script.specs.declared.words.ParseError.{ParseError}
use Rattle.tiff_script.specs.declared.words.ParseError.TheVariants.{Form, OutOfMemory}
use Rattle.tiff_script.specs.Numbers.{magnitude}

infixl 10 ◌>>=◌
abbrev pub ◌>>=◌ : {A B : Type 0} → Option A → (A → Option B) → Option B
o >>= f = option_and_then f o

-- What was read, as `view` shows it, is what is spelled; `Form`: nothing is. Memory may be out
-- whatever is spelled.
abbrev pub Reads : {A B : Type 0} → (A → B) → Option B → Result A ParseError → Type 0
Reads view spelled (Ok x) = spelled ≡ Some (view x)
Reads view spelled (Err Form) = spelled ≡ None
Reads view spelled (Err OutOfMemory) = Unit {0}

-- ---- parts

-- whether a word has this character
abbrev pub has : ℕ → List ℕ → Bool
has c word = nat_lt (position_or_len (λ b. b == c) word) (length word)

-- what stands in front of the first such character: all, if there is none
abbrev pub before : ℕ → List ℕ → List ℕ
before c word = before_first (λ b. b == c) word

-- what stands behind the first such character: nothing, if there is none
abbrev pub behind : ℕ → List ℕ → List ℕ
behind c word = after_first (λ b. b == c) word

-- the characters between the parts of a line
abbrev pub space : ℕ
space = 32

abbrev pub star : ℕ
star = 42

abbrev pub first_word : List ℕ → List ℕ
first_word words = before space words

abbrev pub words_behind : List ℕ → List ℕ
words_behind words = behind space words

-- ---- lists of items

-- what two words stand for
abbrev pub pair : {A B : Type 0} → (List ℕ → Option A) → (List ℕ → Option B) → List ℕ
    → Option (A × B)
pair first second words = do
  a ← first (first_word words)
  b ← second (words_behind words)
  Some (a, b)

-- how often a word counts: once, or as often as the number behind its `*` says
abbrev pub count_of : List ℕ → Option ℕ
count_of word = magnitude (if has star word then behind star word else codes "1")

-- the most items of a word where no image sets a bound
abbrev pub most_items : ℕ
most_items = 2 ^ 32

-- the items behind which stand those of one more word
abbrev pub with_items : {X : Type 0} → (List ℕ → Option X) → List X → List ℕ → Option (List X)
with_items meaning items word = do
  count ← count_of word
  item ← meaning (before star word)
  if nat_le count most_items then Some (items ++ replicate count item) else None

-- the state behind all of these, one step for each, if no step fails
abbrev pub after_all : {S A : Type 0} → (S → A → Option S) → S → List A → Option S
after_all step s [] = Some s
after_all step s (x ∷ xs) = option_and_then (λ t. after_all step t xs) (step s x)

-- the words of a line; a line without text has none
abbrev pub words_of : List ℕ → List (List ℕ)
words_of line = if length line == 0 then [] else slice_split (λ b. b == space) line

-- what each word stands for, as often as it counts
abbrev pub items : {X : Type 0} → (List ℕ → Option X) → List ℕ → Option (List X)
items meaning line = after_all (with_items meaning) [] (words_of line)
