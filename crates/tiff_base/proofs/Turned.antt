-- Sixteen bytes with their lanes in another order.
use Rattle.std.proofs.Common.{◌≡◌, ℕ, List, [], ◌∷◌, ◌++◌, length, take, refl}
use lib.Lanes.{pick_l, put_chunk}
use Rattle.tiff_base.proofs.Sixteen.{sixteen}
use Rattle.tiff_base.specs.ByteOrders.{turned_units}

-- The lanes at these positions, stored, are numbers with reversed bytes.
abbrev pub Turns : List ℕ → ℕ → ℕ → List ℕ → Type 0
Turns ks size count xs =
    put_chunk 0 xs (pick_l 0 (take 16 xs ++ take 16 xs) ks) ≡ turned_units size count xs

pub turns_2 : (xs : List ℕ) → length xs ≡ 16
    → Turns (1 ∷ 0 ∷ 3 ∷ 2 ∷ 5 ∷ 4 ∷ 7 ∷ 6 ∷ 9 ∷ 8 ∷ 11 ∷ 10 ∷ 13 ∷ 12 ∷ 15 ∷ 14 ∷ []) 2 8 xs
turns_2 =
    sixteen (Turns (1 ∷ 0 ∷ 3 ∷ 2 ∷ 5 ∷ 4 ∷ 7 ∷ 6 ∷ 9 ∷ 8 ∷ 11 ∷ 10 ∷ 13 ∷ 12 ∷ 15 ∷ 14
    ∷ []) 2 8) (λ a b c d e f g h i j k l m n o p. refl)

pub turns_4 : (xs : List ℕ) → length xs ≡ 16
    → Turns (3 ∷ 2 ∷ 1 ∷ 0 ∷ 7 ∷ 6 ∷ 5 ∷ 4 ∷ 11 ∷ 10 ∷ 9 ∷ 8 ∷ 15 ∷ 14 ∷ 13 ∷ 12 ∷ []) 4 4 xs
turns_4 =
    sixteen (Turns (3 ∷ 2 ∷ 1 ∷ 0 ∷ 7 ∷ 6 ∷ 5 ∷ 4 ∷ 11 ∷ 10 ∷ 9 ∷ 8 ∷ 15 ∷ 14 ∷ 13 ∷ 12
    ∷ []) 4 4) (λ a b c d e f g h i j k l m n o p. refl)

pub turns_8 : (xs : List ℕ) → length xs ≡ 16
    → Turns (7 ∷ 6 ∷ 5 ∷ 4 ∷ 3 ∷ 2 ∷ 1 ∷ 0 ∷ 15 ∷ 14 ∷ 13 ∷ 12 ∷ 11 ∷ 10 ∷ 9 ∷ 8 ∷ []) 8 2 xs
turns_8 =
    sixteen (Turns (7 ∷ 6 ∷ 5 ∷ 4 ∷ 3 ∷ 2 ∷ 1 ∷ 0 ∷ 15 ∷ 14 ∷ 13 ∷ 12 ∷ 11 ∷ 10 ∷ 9 ∷ 8
    ∷ []) 8 2) (λ a b c d e f g h i j k l m n o p. refl)
