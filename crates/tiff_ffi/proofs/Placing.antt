-- What two and three writes one behind the other leave in a buffer.
use Rattle.std.proofs.Common.{◌≡◌, ℕ, ◌+◌, arith, List, ◌++◌, length, drop, append_assoc, length-append, take_at, drop_at, drop-drop, refl}
use borrow.Rule.Slice.PartMut.{put_mid}

-- a write behind the front
middle : (f g d : List ℕ) (a k : ℕ) → length f ≡ a
    → put_mid a k (f ++ drop a d) g ≡ f ++ (g ++ drop k (drop a d))
middle f g d a k e = rw (take_at f (drop a d) a, drop_at f (drop a d) a) refl

-- a write behind two parts
last : (f g h x : List ℕ) (b e : ℕ) → length (f ++ g) ≡ b
    → put_mid b e (f ++ (g ++ x)) h ≡ (f ++ (g ++ h)) ++ drop e x
last f g h x b e l =
    rw (← append_assoc f g x, take_at (f ++ g) x b, drop_at (f ++ g) x b) (simp append_assoc)

-- two parts, and what the buffer had behind them
pub put_two : (f g d : List ℕ) (a k : ℕ) → length f ≡ a → length g ≡ k
    → put_mid a k (f ++ drop a d) g ≡ f ++ (g ++ drop (length f + length g) d)
put_two f g d a k lf lg =
    let all : a + k ≡ length f + length g = omega (arith, lf, lg) in
    rw (middle f g d a k lf, drop-drop k a d, all) refl

-- the three parts, and what the buffer had behind them
pub put_three : (f g h d : List ℕ) (a b k e : ℕ) → length f ≡ a → length g ≡ k → length h ≡ e
    → a + k ≡ b
    → put_mid b e (put_mid a k (f ++ drop a d) g) h ≡ (f ++ (g ++ h))
    ++ drop (length (f ++ (g ++ h))) d
put_three f g h d a b k e lf lg lh s =
    let two : length (f ++ g) ≡ b = omega (arith, length-append f g) in
    let all : (a + k) + e ≡ length (f ++ (g ++ h)) =
    omega (arith, length-append f (g ++ h), length-append g h) in
    rw (middle f g d a k lf, last f g h (drop k (drop a d)) b e two, drop-drop k a d, drop-drop e (a + k) d, all) refl
