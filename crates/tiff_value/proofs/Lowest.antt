-- The lowest bytes of a number are the lowest bytes of its remainder.
use Rattle.std.proofs.Common.{zero, suc, ◌≡◌, ℕ, ◌+◌, ◌*◌, ◌/◌, ◌%◌, ◌^◌, ◌<◌, List, ◌∷◌, refl, ap, sym, ◌∙◌, arith, lit<}
use Rattle.std.proofs.Math.Nat.{mod-add-div, mod-lt, add-mul-div_left, add-mul-mod_self_left, mul_assoc}
use Rattle.std.proofs.lemmas.Nat.{pow-add}
use Rattle.std.specs.Int.{byte_at, bytes_low_first}
use Rattle.tiff_base.specs.Number.{le}

pow_pos : (n : ℕ) → 0 < 256 ^ n
pow_pos zero = lit< tt
pow_pos (suc n) = let h = pow_pos n in omega (arith, h)

one_more : (k : ℕ) → 256 ^ suc k ≡ 256 * 256 ^ k
one_more k =
    let z : suc k ≡ 1 + k = omega arith in
    let one : 256 ^ 1 ≡ 256 = refl in
    ap (λ (x : ℕ). 256 ^ x) z ∙ pow-add 256 1 k ∙ ap (λ (x : ℕ). x * 256 ^ k) one

-- a number is its remainder plus a multiple
whole : (n a b : ℕ) → n % (a * (256 * b)) + a * (256 * (b * (n / (a * (256 * b))))) ≡ n
whole n a b =
    let q : ℕ = n / (a * (256 * b)) in
    ap (λ (k : ℕ). n % (a * (256 * b)) + k) (sym (mul_assoc a (256 * b) q
    ∙ ap (λ (k : ℕ). a * k) (mul_assoc 256 b q)))
    ∙ mod-add-div n (a * (256 * b))

-- a byte other than the lowest byte
digit : (n a b : ℕ) → 0 < a → n % (a * (256 * b)) / a % 256 ≡ n / a % 256
digit n a b p =
    let r : ℕ = n % (a * (256 * b)) in
    let q : ℕ = b * (n / (a * (256 * b))) in
    let moved : n / a ≡ r / a + 256 * q =
    ap (λ (k : ℕ). k / a) (sym (whole n a b)) ∙ add-mul-div_left r (256 * q) p in
    sym (ap (λ (k : ℕ). k % 256) moved ∙ add-mul-mod_self_left (r / a) 256 q)

-- the lowest byte
lowest : (n b : ℕ) → n % (256 * b) % 256 ≡ n % 256
lowest n b =
    let r : ℕ = n % (256 * b) in
    let q : ℕ = n / (256 * b) in
    let e : r + 256 * (b * q) ≡ n =
    ap (λ (k : ℕ). r + k) (sym (mul_assoc 256 b q)) ∙ mod-add-div n (256 * b) in
    sym (ap (λ (k : ℕ). k % 256) (sym e) ∙ add-mul-mod_self_left r 256 (b * q))

byte_kept : (i k n m : ℕ) → m ≡ 256 ^ (i + suc k) → byte_at i (n % m) ≡ byte_at i n
byte_kept zero k n m e =
    let z : 0 + suc k ≡ suc k = omega arith in
    let f : m ≡ 256 * 256 ^ k = e ∙ ap (λ (x : ℕ). 256 ^ x) z ∙ one_more k in
    ap (λ (x : ℕ). n % x % 256) f ∙ lowest n (256 ^ k)
byte_kept (suc i) k n m e =
    let f : m ≡ 256 ^ suc i * (256 * 256 ^ k) =
    e ∙ pow-add 256 (suc i) (suc k) ∙ ap (λ (x : ℕ). 256 ^ suc i * x) (one_more k) in
    ap (λ (x : ℕ). n % x / 256 ^ suc i % 256) f ∙ digit n (256 ^ suc i) (256 ^ k) (pow_pos (suc i))

kept : (i k n m : ℕ) → m ≡ 256 ^ (i + k) → bytes_low_first i k (n % m) ≡ bytes_low_first i k n
kept i zero n m e = refl
kept i (suc k) n m e =
    let next : i + suc k ≡ suc i + k = omega arith in
    λ t. byte_kept i k n m e t ∷ kept (suc i) k n m (e ∙ ap (λ (x : ℕ). 256 ^ x) next) t

-- the bytes of some bits are the bytes of a number below 256 ^ size
pub spelled_by : (size b : ℕ) (bytes : List ℕ) → bytes ≡ le size b
    → (bytes ≡ le size (b % 256 ^ size)) × (b % 256 ^ size < 256 ^ size)
spelled_by size b bytes e =
    let z : size ≡ 0 + size = omega arith in
    (e ∙ sym (kept 0 size b (256 ^ size) (ap (λ (x : ℕ). 256 ^ x) z)), mod-lt b (pow_pos size))
