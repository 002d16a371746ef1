-- The numbers in a list of bytes.
use Rattle.std.proofs.Common.{◌≡◌, ℕ, zero, suc, ◌+◌, ◌*◌, ◌≤◌, List, [], ◌∷◌, ◌++◌, length, take, drop, get_or, refl, ◌∙◌, arith, length-drop}
use Rattle.std.proofs.lemmas.List.{get_or-take, get_or-drop, length-take-le}
use Rattle.std.proofs.lemmas.List.FromFn.{fill_by_all}
use Rattle.std.specs.Prelude.{slice_index, replicate}
use Rattle.tiff_base.specs.declared.tags.ByteOrder.TheVariants.{LittleEndian}
use Rattle.tiff_base.specs.Number.{number}
use Rattle.tiff_page.specs.Pixels.{tabulate, width_of}

pub zero_in : (n i : ℕ) → get_or {A = ℕ} (replicate n 0) i 0 ≡ 0
zero_in zero i = refl
zero_in (suc n) zero = refl
zero_in (suc n) (suc i) = zero_in n i

-- a list of bytes followed by zeros has the same bytes as the list, which is zero past its end
pub behind : (bytes zeros : List ℕ) (k : ℕ) → ((i : ℕ) → get_or zeros i 0 ≡ 0)
    → get_or (bytes ++ zeros) k 0 ≡ get_or bytes k 0
behind [] zeros k none = none k
behind (b ∷ bytes) zeros zero none = refl
behind (b ∷ bytes) zeros (suc k) none = behind bytes zeros k none

-- the number at index n of a list of bytes
abbrev pub number_in : ℕ → List ℕ → ℕ → ℕ
number_in size bytes n =
    number LittleEndian (width_of size) (tabulate size (λ j. slice_index bytes (n * size + j)))

-- a whole piece of bytes
pub whole : (size : ℕ) (bytes : List ℕ) (n : ℕ) → n * size + size ≤ length bytes
    → take size (drop (n * size) bytes) ≡ tabulate size (λ j. slice_index bytes (n * size + j))
whole size bytes n h =
    fill_by_all (λ j. slice_index bytes (n * size + j)) (take size (drop (n * size) bytes)) size 0
    (length-take-le size (drop (n * size) bytes) (omega (arith, length-drop (n * size) bytes)))
    (λ k l. get_or-take size (drop (n * size) bytes) k 0 l ∙ get_or-drop (n * size) bytes k 0)
